-- Where no class inherits from itself, a class and its ancestors are distinct, and no more than there are classes.
use Rattle.std.proofs.Common.{◌≡◌, ℕ, zero, suc, ◌<◌, ◌≤◌, List, ◌∷◌, length, Bool, true, false, cond, nat_eq, refl, sym, ap, ◌∙◌}
use Rattle.std.proofs.Common.{arith}
use Rattle.std.proofs.lemmas.Bool.Decides.{nat_tests}
use Rattle.std.specs.Prelude.{Option, Some, None, is_some}
use Rattle.verse_rules_types.specs.Types.{Class}
use Rattle.verse_rules_types.specs.Fitting.{parent_of, above, first_above}
use Rattle.verse_names_declarations.specs.Lines.{on_class, line}
use Rattle.verse_names_items.specs.Rules.{leads_to}
use Rattle.verse_accept_scopes.specs.Lists.{Each}
use Rattle.verse_accept_classes.proofs.Sums.{Absent, Distinct}
use Rattle.verse_accept_classes.proofs.Sums.{few}

module _ (os : List Class) where
  -- the ancestors of a class end within so many steps
  abbrev pub ends_above : Option ℕ → (ℕ → Bool) → Bool
  ends_above None f = true
  ends_above (Some p) f = f p

  abbrev pub ends : ℕ → ℕ → Bool
  ends zero d = false
  ends (suc n) d = ends_above (parent_of os d) (ends n)

  -- a class that is not found above another one is not in its line
  differ : (d c : ℕ) (o : Option ℕ) → is_some (cond (nat_eq d c) (Some c) o) ≡ false → d ≡ c → ⊥
  differ d c o h e = by (nat_eq d c) refl
    where
      by : (b : Bool) → nat_eq d c ≡ b → ⊥
      by true p = let k = rw p at h in cc
      by false p = grind (arith, nat_tests, p, e)

  further : (d c : ℕ) (o : Option ℕ) → is_some (cond (nat_eq d c) (Some c) o) ≡ false → is_some o ≡ false
  further d c o h = by (nat_eq d c) refl
    where
      by : (b : Bool) → nat_eq d c ≡ b → is_some o ≡ false
      by true p = let k = rw p at h in cc
      by false p = rw p at h

  absent : (d n m c : ℕ) → m ≤ n → is_some (first_above os (nat_eq d) n c) ≡ false → Absent d (line os m c)
  absent d n zero c l h = tt
  absent d zero (suc m) c l h = absurd (omega (arith, l))
  absent d (suc n) (suc m) c l h = (
    differ d c (above (parent_of os c) (first_above os (nat_eq d) n)) h,
    up (parent_of os c) (λ p k. absent d n m p (omega (arith, l)) k)
        (further d c (above (parent_of os c) (first_above os (nat_eq d) n)) h),
  )
    where
      up : (o : Option ℕ) → ((p : ℕ) → is_some (first_above os (nat_eq d) n p) ≡ false → Absent d (line os m p)) →
          is_some (above o (first_above os (nat_eq d) n)) ≡ false → Absent d (on_class o (line os m))
      up None r k = tt
      up (Some p) r k = r p k

  -- no class inherits from itself
  abbrev pub NoCircle : Type 0
  NoCircle = (d : ℕ) → leads_to os d (parent_of os d) ≡ false

  pub line_distinct : NoCircle → (n c : ℕ) → n ≤ suc (length os) → Distinct (line os n c)
  line_distinct h zero c l = tt
  line_distinct h (suc n) c l = by (parent_of os c) refl (λ p. line_distinct h n p (omega (arith, l)))
    where
      by : (o : Option ℕ) → parent_of os c ≡ o → ((p : ℕ) → Distinct (line os n p)) → Distinct (c ∷ on_class o (line os n))
      by None e r = (tt, tt)
      by (Some p) e r = (absent c (length os) n p (omega (arith, l)) (ap (leads_to os c) (sym e) ∙ h c), r p)

  -- parents are classes
  abbrev pub ParentsWithin : Type 0
  ParentsWithin = (c p : ℕ) → parent_of os c ≡ Some p → p < length os

  pub line_within : ParentsWithin → (n c : ℕ) → c < length os → Each (λ d. d < length os) (line os n c)
  line_within h zero c l = tt
  line_within h (suc n) c l = (l, by (parent_of os c) refl (λ p k. line_within h n p k))
    where
      by : (o : Option ℕ) → parent_of os c ≡ o → ((p : ℕ) → p < length os → Each (λ d. d < length os) (line os n p)) →
          Each (λ d. d < length os) (on_class o (line os n))
      by None e r = tt
      by (Some p) e r = r p (h c p e)

  -- a line that does not end in so many steps has more classes than that
  long : (n c : ℕ) → ends n c ≡ false → length (line os (suc n) c) ≡ suc n
  long zero c h = by (parent_of os c)
    where
      by : (o : Option ℕ) → length (c ∷ on_class o (line os zero)) ≡ 1
      by None = refl
      by (Some p) = refl
  long (suc n) c h = by (parent_of os c) (λ p k. long n p k) h
    where
      by : (o : Option ℕ) → ((p : ℕ) → ends n p ≡ false → length (line os (suc n) p) ≡ suc n) → ends_above o (ends n) ≡ false →
          length (c ∷ on_class o (line os (suc n))) ≡ suc (suc n)
      by None r k = cc
      by (Some p) r k = ap suc (r p k)

  pub all_end : NoCircle → ParentsWithin → (c : ℕ) → c < length os → ends (length os) c ≡ true
  all_end h k c l = by (ends (length os) c) refl
    where
      by : (b : Bool) → ends (length os) c ≡ b → b ≡ true
      by true e = refl
      by false e =
          let most = few (length os) (line os (suc (length os)) c) (line_within k (suc (length os)) c l)
          (line_distinct h (suc (length os)) c (omega arith)) in
          absurd (omega (arith, most, long (length os) c e))
