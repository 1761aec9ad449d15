-- Lines of ancestors that end, however many steps are taken.
use Rattle.std.proofs.Common.{◌≡◌, ℕ, zero, suc, ◌<◌, ◌≤◌, Bool, true, false, cond, nat_eq, List, [], ◌∷◌, length, Option, refl, sym}
use Rattle.std.proofs.Common.{ap, ◌∙◌, subst, arith}
use Rattle.std.proofs.lemmas.Bool.Decides.{nat_tests}
use Rattle.std.specs.Prelude.{Some, None}
use Rattle.verse_rules_types.specs.Types.{Class}
use Rattle.verse_rules_types.specs.Fitting.{parent_of}
use Rattle.verse_names_declarations.specs.Lines.{on_class, line, line_of, others, ancestors}
use Rattle.verse_accept_classes.proofs.Sums.{Absent, Distinct}
use Rattle.verse_accept_classes.proofs.Lines.{ends_above, ends, NoCircle, line_distinct, ParentsWithin, all_end}

module _ (os : List Class) where
  -- more steps lead no further
  pub line_more : (m n d : ℕ) → m ≤ n → ends os m d ≡ true → line os n d ≡ line os m d
  line_more zero n d l h = cc
  line_more (suc m) zero d l h = absurd (omega (arith, l))
  line_more (suc m) (suc n) d l h = ap (λ ds. d ∷ ds) (by (parent_of os d) h (λ p g. line_more m n p (omega (arith, l)) g))
    where
      by : (o : Option ℕ) → ends_above os o (ends os m) ≡ true → ((p : ℕ) → ends os m p ≡ true → line os n p ≡ line os m p) →
          on_class o (line os n) ≡ on_class o (line os m)
      by None g r = refl
      by (Some p) g r = r p g

  pub ends_parent : (n d p : ℕ) → ends os (suc n) d ≡ true → parent_of os d ≡ Some p → ends os n p ≡ true
  ends_parent n d p h e = subst (λ o. ends_above os o (ends os n) ≡ true) e h

  pub ends_more : (m n d : ℕ) → m ≤ n → ends os m d ≡ true → ends os n d ≡ true
  ends_more zero n d l h = cc
  ends_more (suc m) zero d l h = absurd (omega (arith, l))
  ends_more (suc m) (suc n) d l h = by (parent_of os d) h (λ p g. ends_more m n p (omega (arith, l)) g)
    where
      by : (o : Option ℕ) → ends_above os o (ends os m) ≡ true → ((p : ℕ) → ends os m p ≡ true → ends os n p ≡ true) →
          ends_above os o (ends os n) ≡ true
      by None g r = refl
      by (Some p) g r = r p g

  no_others : (c : ℕ) (ds : List ℕ) → Absent c ds → others c ds ≡ ds
  no_others c [] h = refl
  no_others c (d ∷ ds) h = by (nat_eq d c) refl (no_others c ds h.1)
    where
      by : (b : Bool) → nat_eq d c ≡ b → others c ds ≡ ds → cond b (others c ds) (d ∷ others c ds) ≡ d ∷ ds
      by true e r = absurd (h.0 (grind (arith, nat_tests, e)))
      by false e r = ap (λ l. d ∷ l) r

  -- where no class inherits from itself and parents are classes
  module _ (straight : NoCircle os) (within : ParentsWithin os) where
    -- the line of a class is that of its parent, behind the class
    pub line_is : (c : ℕ) → c < length os → line_of os c ≡ c ∷ on_class (parent_of os c) (line_of os)
    line_is c l = by (length os) refl (all_end os straight within c l)
      where
        by : (n : ℕ) → length os ≡ n → ends os (length os) c ≡ true → line_of os c ≡ c ∷ on_class (parent_of os c) (line_of os)
        by zero e h = absurd (omega (arith, e, l))
        by (suc n) e h =
            ap (λ m. line os m c) e ∙ ap (λ ds. c ∷ ds) (parts (parent_of os c) refl)
          where
            parts : (o : Option ℕ) → parent_of os c ≡ o → on_class o (line os n) ≡ on_class o (line_of os)
            parts None q = refl
            parts (Some p) q =
                let end : ends os n p ≡ true = ends_parent n c p (ap (λ m. ends os m c) (sym e) ∙ h) q in
                sym (line_more n (length os) p (omega (arith, e)) end)

    -- a class is not among its ancestors
    pub above_is : (c : ℕ) → c < length os → ancestors os c ≡ on_class (parent_of os c) (line_of os)
    above_is c l =
        let whole : Distinct (line_of os c) = line_distinct os straight (length os) c (omega arith) in
        no_others c (on_class (parent_of os c) (line_of os)) (subst Distinct (line_is c l) whole).0
