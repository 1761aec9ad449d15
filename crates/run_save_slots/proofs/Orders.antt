-- Waits in the order of their numbers.
use Rattle.std.proofs.Common.{◌≡◌, ℕ, zero, suc, ◌+◌, ◌<◌, ◌≤◌, Bool, eqb, List, [], ◌∷◌, ◌++◌, length, map, get_or, take, drop, refl, sym}
use Rattle.std.proofs.Common.{ap}
use Rattle.std.proofs.Common.{subst, ◌∙◌, arith, ◌⊎◌, inl, inr}
use Rattle.std.proofs.lemmas.Bool.{cases_eq, eq-eqb, ne_eqb}
use Rattle.std.proofs.lemmas.List.{get_or-map, length-map, drop_more, map-append}
use Rattle.std.proofs.lemmas.List.Kept.{AllPairs-from_increasing}
use Rattle.std.proofs.lemmas.List.Sorted.{IsPermutation-map}
use Rattle.std.proofs.lemmas.Map.Keys.{IsDistinct-IsPermutation, IsStrictlyIncreasing-from_distinct}
use Rattle.std.specs.List.{IsDistinct}
use Rattle.std.specs.List.Sorted.{IsPermutation, IsNonDecreasing, IsNonDecreasingBy}
use Rattle.sim_clock.specs.declared.waits.Wait.{Wait}
use Rattle.sim_clock.specs.declared.waits.Pending.{Pending}
use Rattle.sim_clock.specs.Pending.{IsAboveAll}
use Rattle.run_save_slots.specs.Started.{number_of, started, AllBelow, Rises, IsInOrder}

flips : (a b : ℕ) → eqb a b ≡ eqb b a
flips a b = by (cases_eq a b)
  where
    by : (a ≡ b) ⊎ (a ≡ b → ⊥) → eqb a b ≡ eqb b a
    by (inl e) = eq-eqb a b e ∙ sym (eq-eqb b a (sym e))
    by (inr d) = ne_eqb a b d ∙ sym (ne_eqb b a (λ k. d (sym k)))

all_below : (n : ℕ) (ws : List Wait) → ((j : ℕ) (d : Wait) → j < length ws → n < number_of (get_or ws j d)) → AllBelow n ws
all_below n [] h = tt
all_below n (w ∷ ws) h = (h 0 w (omega arith), all_below n ws (λ j d l. h (suc j) d (omega (arith, l))))

rises_from : (ws : List Wait) →
    ((i j : ℕ) (d : Wait) → i < j → j < length ws → number_of (get_or ws i d) < number_of (get_or ws j d)) → Rises ws
rises_from [] h = tt
rises_from (w ∷ ws) h = (
  all_below w.number ws (λ j d l. h 0 (suc j) d (omega arith) (omega (arith, l))),
  rises_from ws (λ i j d l m. h (suc i) (suc j) d (omega (arith, l)) (omega (arith, m))),
)

pub in_order : (all new : List Wait) → IsPermutation all new → IsNonDecreasingBy number_of new → IsDistinct eqb (map number_of all) →
    IsInOrder all new
in_order all new p up d =
    let long : length (map number_of new) ≡ length new = length-map new number_of in
    let at : (i : ℕ) (w : Wait) (n : ℕ) → i < length new → get_or (map number_of new) i n ≡ number_of (get_or new i w) =
    λ i w n l. get_or-map number_of new i w n l in
    let numbers : IsNonDecreasing (map number_of new) = λ i j n l m. falls i j n l (omega (arith, m, long)) in
    let distinct : IsDistinct eqb (map number_of new) =
    IsDistinct-IsPermutation eqb flips (map number_of all) (map number_of new) (IsPermutation-map number_of all new p) d in
    let pairs = AllPairs-from_increasing (map number_of new) (IsStrictlyIncreasing-from_distinct (map number_of new) numbers distinct) in
    record {
      same = p;
      rises = rises_from new (λ i j w l m.
          omega (
            arith,
            pairs i j (number_of w) l (omega (arith, m, long)),
            at i w (number_of w) (omega (arith, l, m)),
            at j w (number_of w) m,
          ));
    }
  where
    some : (ws : List Wait) (j : ℕ) → j < length ws → Wait
    some [] j l = absurd (omega (arith, l))
    some (w ∷ ws) j l = w

    falls : (i j n : ℕ) → i ≤ j → j < length new → get_or (map number_of new) i n ≤ get_or (map number_of new) j n
    falls i j n l m =
        let w : Wait = some new j m in
        omega (arith, up i j w l m, get_or-map number_of new i w n (omega (arith, l, m)), get_or-map number_of new j w n m)

-- each number is above those before
above_last : (xs : List Wait) (w : Wait) (ys : List Wait) → Rises (xs ++ w ∷ ys) → IsAboveAll w.number (map started xs)
above_last [] w ys r = tt
above_last (x ∷ xs) w ys r = (first xs r.0, above_last xs w ys r.1)
  where
    first : (zs : List Wait) → AllBelow x.number (zs ++ w ∷ ys) → x.number < w.number
    first [] b = b.0
    first (z ∷ zs) b = first zs b.1

pub above : (all : List Wait) (i : ℕ) (d : Wait) → i < length all → Rises all →
    IsAboveAll (number_of (get_or all i d)) (map started (take i all))
above all i d l r = above_last (take i all) (get_or all i d) (drop (suc i) all) (subst (λ xs. Rises xs) (parts all i l) r)
  where
    parts : (xs : List Wait) (i : ℕ) → i < length xs → xs ≡ take i xs ++ get_or xs i d ∷ drop (suc i) xs
    parts [] i l = absurd (omega (arith, l))
    parts (x ∷ xs) zero l = refl
    parts (x ∷ xs) (suc i) l = ap (λ ys. x ∷ ys) (parts xs i (omega (arith, l)))

pub above_so_far : (all : List Wait) (i : ℕ) (d : Wait) (ps : List Pending) → ps ≡ map started (take i all) → i < length all → Rises all →
    IsAboveAll (number_of (get_or all i d)) ps
above_so_far all i d ps e l r = subst (λ qs. IsAboveAll (number_of (get_or all i d)) qs) (sym e) (above all i d l r)
