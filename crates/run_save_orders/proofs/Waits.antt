-- Waits of trees in another order.
use Rattle.std.proofs.Common.{◌≡◌, ℕ, ◌+◌, ◌≤◌, List, [], ◌∷◌, ◌++◌, Bool, true, false, cond, refl, sym, subst, ap, ◌∙◌}
use Rattle.std.proofs.Common.{append_assoc, arith}
use Rattle.verse_meaning_state.specs.State.{State}
use Rattle.verse_meaning_state.specs.Waits.{Wait, eqn, has, due_of, sooner_of, least}
use Rattle.verse_meaning_state.proofs.Numbers.{eqn_same}
use Rattle.verse_meaning_state.proofs.Dues.{sooner_of_swaps}
use Rattle.verse_code_machine.specs.Tasks.{Rest, asleep, group, Task, waits_with, waits_of, tree_waits}
use Rattle.verse_code_machine.specs.Runs.{Forest}
use Rattle.verse_code_machine_parents.proofs.Lists.{no_both}
use Rattle.run_save_shots.specs.Lists.{Each, Reordered, no_elements, one_more}
use Rattle.run_save_shots.proofs.Lists.{each_join, each_front, each_back}
use Rattle.run_save_fits.specs.Held.{one, is_wait, tasks_sum, trees_sum}
use Rattle.run_save_kept.specs.Growing.{filled}
use Rattle.run_save_orders.proofs.Orders.{with_block}

-- how many waits have the number
abbrev pub count : ℕ → List Wait → ℕ
count n [] = 0
count n (w ∷ ws) = one (eqn n w.number) + count n ws

abbrev pub of_number : ℕ → Task → ℕ
of_number n t = is_wait n t.rest

pub count_join : (n : ℕ) (a b : List Wait) → count n (a ++ b) ≡ count n a + count n b
count_join n [] b = omega arith
count_join n (w ∷ a) b = let h = count_join n a b in omega (arith, h)

with_count : (n : ℕ) (r : Rest) (ws : List Wait) → count n (waits_with r ws) ≡ is_wait n r + count n ws
with_count n (asleep w) ws = refl
with_count n (group k p gs) ws = omega arith

pub tasks_count : (n : ℕ) (ts : List Task) → count n (waits_of ts) ≡ tasks_sum (of_number n) ts
tasks_count n [] = refl
tasks_count n (t ∷ ts) = let h = tasks_count n ts in let g = with_count n t.rest (waits_of ts) in omega (arith, h, g)

pub trees_count : (n : ℕ) (tss : Forest) → count n (tree_waits tss) ≡ trees_sum (of_number n) tss
trees_count n [] = refl
trees_count n (ts ∷ tss) =
    let h = trees_count n tss in let g = count_join n (waits_of ts) (tree_waits tss) in let i = tasks_count n ts in omega (arith, h, g, i)

pub none_has : (n : ℕ) (ws : List Wait) → count n ws ≡ 0 → has n ws ≡ false
none_has n [] e = refl
none_has n (w ∷ ws) e = by_test (eqn n w.number) (none_has n ws) e
  where
    rest : (a b : ℕ) → a + b ≡ 0 → b ≡ 0
    rest a b e = omega (arith, e)

    no : (b : ℕ) → 1 + b ≡ 0 → ⊥
    no b e = omega (arith, e)

    by_test : (b : Bool) → (count n ws ≡ 0 → has n ws ≡ false) → one b + count n ws ≡ 0 → cond b true (has n ws) ≡ false
    by_test true h e = absurd (no (count n ws) e)
    by_test false h e = h (rest 0 (count n ws) e)

pub has_some : (n : ℕ) (ws : List Wait) → has n ws ≡ true → 1 ≤ count n ws
has_some n [] e = no_both (sym e)
has_some n (w ∷ ws) e = by_test (eqn n w.number) (has_some n ws) e
  where
    by_test : (b : Bool) → (has n ws ≡ true → 1 ≤ count n ws) → cond b true (has n ws) ≡ true → 1 ≤ one b + count n ws
    by_test true h e = omega arith
    by_test false h e = let g = h e in omega (arith, g)

-- ---- which wait is due

-- no number stands twice
abbrev Unlike : List Wait → Type 0
Unlike [] = Unit {0}
Unlike (w ∷ ws) = Each (λ v. v.number ≡ w.number → ⊥) ws × Unlike ws

none_alike : (n : ℕ) (ws : List Wait) → count n ws ≡ 0 → Each (λ v. v.number ≡ n → ⊥) ws
none_alike n [] e = tt
none_alike n (w ∷ ws) e = (
  λ f. other (one (eqn n w.number)) (count n ws) e (ap one (subst (λ i. eqn n i ≡ true) (sym f) (eqn_same n))),
  none_alike n ws (rest
      (one (eqn n w.number)) (count n ws) e),
)
  where
    rest : (a b : ℕ) → a + b ≡ 0 → b ≡ 0
    rest a b e = omega (arith, e)

    other : (a b : ℕ) → a + b ≡ 0 → a ≡ 1 → ⊥
    other a b e f = omega (arith, e, f)

pub unlike_of : (ws : List Wait) → ((n : ℕ) → count n ws ≤ 1) → Unlike ws
unlike_of [] f = tt
unlike_of (w ∷ ws) f = (
  none_alike w.number ws (alone (one (eqn w.number w.number)) (count w.number ws) (f w.number) (ap one (eqn_same w.number))),
  unlike_of ws (λ n. fewer (one (eqn n w.number)) (count n ws) (f n)),
)
  where
    alone : (a b : ℕ) → a + b ≤ 1 → a ≡ 1 → b ≡ 0
    alone a b e f = omega (arith, e, f)

    fewer : (a b : ℕ) → a + b ≤ 1 → b ≤ 1
    fewer a b e = omega (arith, e)

unlike_parts : (a : List Wait) (w : Wait) (b : List Wait) → Unlike (a ++ w ∷ b) → Each (λ v. v.number ≡ w.number → ⊥) (a ++ b) ×
    Unlike (a ++ b)
unlike_parts [] w b u = u
unlike_parts (v ∷ a) w b u =
    let r = unlike_parts a w b u.1 in
    let p = each_front (λ x. x.number ≡ v.number → ⊥) a (w ∷ b) u.0 in
    let q = each_back (λ x. x.number ≡ v.number → ⊥) a (w ∷ b) u.0 in
    (((λ h. q.0 (sym h)), r.0), (each_join (λ x. x.number ≡ v.number → ⊥) a b p q.1, r.1))

least_moved : (s : State) (f : List Wait) (x : Wait) (g : List Wait) → Each (λ v. v.number ≡ x.number → ⊥) f →
    least s (f ++ x ∷ g) ≡ sooner_of x.number (due_of s x.number x.cause) (least s (f ++ g))
least_moved s [] x g d = refl
least_moved s (v ∷ f) x g d = ap (λ o. sooner_of v.number (due_of s v.number v.cause) o) (least_moved s f x g d.1) ∙
    sooner_of_swaps v.number x.number (due_of s v.number v.cause) (due_of s x.number x.cause) (least s (f ++ g)) d.0

pub least_same : (s : State) {xs zs : List Wait} → Reordered xs zs → Unlike zs → least s xs ≡ least s zs
least_same s no_elements u = refl
least_same s (one_more {x = x} {xs = xs} f g p h) u =
    let r = unlike_parts f x g (subst (λ w. Unlike w) p u) in
    ap (λ o. sooner_of x.number (due_of s x.number x.cause) o) (least_same s h r.1) ∙
    (sym (least_moved s f x g (each_front (λ v. v.number ≡ x.number → ⊥) f g r.0)) ∙ ap (λ w. least s w) (sym p))

-- ---- the waits of trees

pub waits_join : (a b : Forest) → tree_waits (a ++ b) ≡ tree_waits a ++ tree_waits b
waits_join [] b = refl
waits_join (ts ∷ a) b = ap (λ w. waits_of ts ++ w) (waits_join a b) ∙ sym (append_assoc (waits_of ts) (tree_waits a) (tree_waits b))

pub filled_waits : (tss : Forest) → tree_waits (filled tss) ≡ tree_waits tss
filled_waits [] = refl
filled_waits ([] ∷ tss) = filled_waits tss
filled_waits ((t ∷ ts) ∷ tss) = ap (λ w. waits_of (t ∷ ts) ++ w) (filled_waits tss)

waits_reorder : {xs zs : Forest} → Reordered xs zs → Reordered (tree_waits xs) (tree_waits zs)
waits_reorder no_elements = no_elements
waits_reorder (one_more {x = x} {xs = xs} f g e r) =
    subst (λ w. Reordered (waits_of x ++ tree_waits xs) w) (sym (ap tree_waits e ∙ waits_join f (x ∷ g)))
    (with_block (waits_of x) (tree_waits xs) (tree_waits f) (tree_waits g)
    (subst (λ w. Reordered (tree_waits xs) w) (waits_join f g) (waits_reorder r)))

pub same_waits : (tss uss : Forest) → Reordered (filled tss) (filled uss) → Reordered (tree_waits tss) (tree_waits uss)
same_waits tss uss r = subst (λ w. Reordered w (tree_waits uss)) (filled_waits tss)
    (subst (λ w. Reordered (tree_waits (filled tss)) w) (filled_waits uss) (waits_reorder r))
