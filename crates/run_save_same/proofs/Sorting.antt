-- Pairs of numbers of which each two are in one order, put in that order.
use Rattle.std.proofs.Common.{◌≡◌, ℕ, ◌≤◌, ◌<◌, [], ◌∷◌, ◌++◌, Bool, true, false, cond, refl, sym, ap, arith, ◌⊎◌}
use mathlib.Core.Logic.{inl, inr}
use Rattle.verse_meaning_state.specs.Waits.{ltn}
use Rattle.verse_meaning_state.proofs.Numbers.{ltn_is_not, ltn_is}
use Rattle.verse_code_machine_saved.specs.Numbers.{Pairs, AllAbove, Rising, NoneBelow}
use Rattle.run_save_shots.specs.Lists.{Each, EachTwo}

-- the first is below the second in both numbers
abbrev pub IsBelow : ℕ × ℕ → ℕ × ℕ → Type 0
IsBelow p q = (p.0 < q.0) × (p.1 < q.1)

abbrev pub Aligned : ℕ × ℕ → ℕ × ℕ → Type 0
Aligned p q = IsBelow p q ⊎ IsBelow q p

abbrev pub put : ℕ × ℕ → Pairs → Pairs
put p [] = p ∷ []
put p (q ∷ ps) = cond (ltn p.0 q.0) (p ∷ q ∷ ps) (q ∷ put p ps)

abbrev pub sorted : Pairs → Pairs
sorted [] = []
sorted (p ∷ ps) = put p (sorted ps)

-- it is one of the pairs
abbrev pub In : ℕ × ℕ → Pairs → Type 0
In p [] = ⊥
In p (q ∷ ps) = (p ≡ q) ⊎ In p ps

in_cond : (p : ℕ × ℕ) (b : Bool) (xs ys : Pairs) → In p xs → In p ys → In p (cond b xs ys)
in_cond p true xs ys f g = f
in_cond p false xs ys f g = g

put_in : (p r : ℕ × ℕ) (ps : Pairs) → p ≡ r → In p (put r ps)
put_in p r [] e = inl e
put_in p r (q ∷ ps) e = in_cond p (ltn r.0 q.0) (r ∷ q ∷ ps) (q ∷ put r ps) (inl e) (inr (put_in p r ps e))

put_kept : (p r : ℕ × ℕ) (ps : Pairs) → In p ps → In p (put r ps)
put_kept p r [] h = inr h
put_kept p r (q ∷ ps) h = in_cond p (ltn r.0 q.0) (r ∷ q ∷ ps) (q ∷ put r ps) (inr h) (tail h (λ g. put_kept p r ps g))
  where
    tail : In p (q ∷ ps) → (In p ps → In p (put r ps)) → In p (q ∷ put r ps)
    tail (inl e) f = inl e
    tail (inr h) f = inr (f h)

pub sorted_in : (p : ℕ × ℕ) (ps : Pairs) → In p ps → In p (sorted ps)
sorted_in p [] h = absurd h
sorted_in p (q ∷ ps) (inl e) = put_in p q (sorted ps) e
sorted_in p (q ∷ ps) (inr h) = put_kept p q (sorted ps) (sorted_in p ps h)

-- at a place among them
pub record Has (p : ℕ × ℕ) (ps : Pairs) : Type 0 where
  pub front : Pairs
  pub back : Pairs
  pub is : ps ≡ front ++ p ∷ back

pub has_in : (p : ℕ × ℕ) (ps : Pairs) → In p ps → Has p ps
has_in p [] h = absurd h
has_in p (q ∷ ps) (inl e) = record { front = []; back = ps; is = ap (λ r. r ∷ ps) (sym e) }
has_in p (q ∷ ps) (inr h) = let g =
    has_in p ps h in record { front = q ∷ g.front; back = g.back; is = ap (λ xs. q ∷ xs) g.is }

-- ---- each two are in order

each_cond : (P : ℕ × ℕ → Type 0) (b : Bool) (xs ys : Pairs) → Each P xs → Each P ys → Each P (cond b xs ys)
each_cond P true xs ys f g = f
each_cond P false xs ys f g = g

put_each : (P : ℕ × ℕ → Type 0) (p : ℕ × ℕ) (ps : Pairs) → P p → Each P ps → Each P (put p ps)
put_each P p [] a b = (a, tt)
put_each P p (q ∷ ps) a b = each_cond P (ltn p.0 q.0) (p ∷ q ∷ ps) (q ∷ put p ps) (a, b) (b.0, put_each P p ps a b.1)

pub sorted_each : (P : ℕ × ℕ → Type 0) (ps : Pairs) → Each P ps → Each P (sorted ps)
sorted_each P [] a = tt
sorted_each P (p ∷ ps) a = put_each P p (sorted ps) a.0 (sorted_each P ps a.1)

all_above : (p : ℕ × ℕ) (ps : Pairs) → Each (IsBelow p) ps → AllAbove p ps
all_above p [] a = tt
all_above p (q ∷ ps) a = (a.0.0, a.0.1, all_above p ps a.1)

above_each : (p : ℕ × ℕ) (ps : Pairs) → AllAbove p ps → Each (IsBelow p) ps
above_each p [] a = tt
above_each p (q ∷ ps) a = ((a.0, a.1), above_each p ps a.2)

further : (p q : ℕ × ℕ) (ps : Pairs) → IsBelow p q → Each (IsBelow q) ps → Each (IsBelow p) ps
further p q [] h a = tt
further p q (r ∷ ps) h a = ((less p.0 q.0 r.0 h.0 a.0.0, less p.1 q.1 r.1 h.1 a.0.1), further p q ps h a.1)
  where
    less : (i j k : ℕ) → i < j → j < k → i < k
    less i j k e f = omega (arith, e, f)

put_rises : (p : ℕ × ℕ) (ps : Pairs) → Each (Aligned p) ps → Rising ps → Rising (put p ps)
put_rises p [] a r = (tt, tt)
put_rises p (q ∷ ps) a r = by_test (ltn p.0 q.0) refl (put_rises p ps a.1 r.1)
  where
    crossed : {A : Type 0} (i j : ℕ) → i < j → j < i → A
    crossed i j e f = absurd (omega (arith, e, f))

    lower : ltn p.0 q.0 ≡ true → Aligned p q → IsBelow p q
    lower e (inl h) = h
    lower e (inr h) = crossed p.0 q.0 (ltn_is p.0 q.0 e) h.0

    higher : ltn p.0 q.0 ≡ false → Aligned p q → IsBelow q p
    higher e (inl h) = no p.0 q.0 (ltn_is_not p.0 q.0 e) h.0
      where
        no : {A : Type 0} (i j : ℕ) → j ≤ i → i < j → A
        no i j e f = absurd (omega (arith, e, f))
    higher e (inr h) = h

    by_test : (b : Bool) → ltn p.0 q.0 ≡ b → Rising (put p ps) → Rising (cond b (p ∷ q ∷ ps) (q ∷ put p ps))
    by_test true e f =
        let h = lower e a.0 in
        (all_above p (q ∷ ps) (h, further p q ps h (above_each q ps r.0)), r)
    by_test false e f = (all_above q (put p ps) (put_each (IsBelow q) p ps (higher e a.0) (above_each q ps r.0)), f)

pub sorted_rises : (ps : Pairs) → EachTwo Aligned ps → Rising (sorted ps)
sorted_rises [] a = tt
sorted_rises (p ∷ ps) a = put_rises p (sorted ps) (sorted_each (Aligned p) ps a.0) (sorted_rises ps a.1)

abbrev pub IsAbove : ℕ → ℕ × ℕ → Type 0
IsAbove bound p = (bound ≤ p.0) × (bound ≤ p.1)

pub none_below : (bound : ℕ) (ps : Pairs) → Each (IsAbove bound) ps → NoneBelow bound ps
none_below bound [] a = tt
none_below bound (p ∷ ps) a = (a.0.0, a.0.1, none_below bound ps a.1)

pub sorted_above : (bound : ℕ) (ps : Pairs) → Each (IsAbove bound) ps → NoneBelow bound (sorted ps)
sorted_above bound ps a = none_below bound (sorted ps) (sorted_each (IsAbove bound) ps a)

-- ---- two lists of pairs together

pub in_front : (p : ℕ × ℕ) (xs ys : Pairs) → In p xs → In p (xs ++ ys)
in_front p [] ys h = absurd h
in_front p (x ∷ xs) ys (inl e) = inl e
in_front p (x ∷ xs) ys (inr h) = inr (in_front p xs ys h)

pub in_back : (p : ℕ × ℕ) (xs ys : Pairs) → In p ys → In p (xs ++ ys)
in_back p [] ys h = h
in_back p (x ∷ xs) ys h = inr (in_back p xs ys h)
