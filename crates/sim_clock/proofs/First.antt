-- Which of several waits is due first.
use native.Mathlib.Numerals.{unary_clauses}
use Rattle.std.proofs.Common.{◌≡◌, ℕ, zero, suc, ◌+◌, ◌<◌, ◌⊎◌, inl, inr, Bool, true, false, IsTrue, if◌then◌else◌, List, [], ◌∷◌, drop}
use Rattle.std.proofs.Common.{length, get_or, slice_get, Option, Some, None, refl, sym, ◌∙◌, ap, arith}
use Rattle.std.proofs.Math.Seq.{drop-cons}
use Rattle.std.proofs.lemmas.Bool.Decides.{nat_tests}
use Rattle.std.proofs.lemmas.Option.{none-some, same_Some}
use Rattle.sim_clock.specs.declared.waits.Due.{Due}
use Rattle.sim_clock.specs.declared.waits.Pending.{Pending}
use Rattle.sim_clock.specs.Pending.{earlier, comes_before, due_of, first_due}

pub earlier_none : (o : Option Due) → earlier o None ≡ o
earlier_none None = refl
earlier_none (Some d) = refl

pub earlier_assoc : (a b c : Option Due) → earlier (earlier a b) c ≡ earlier a (earlier b c)
earlier_assoc None b c = refl
earlier_assoc (Some d) None c = refl
earlier_assoc (Some d) (Some e) None = earlier_none (earlier (Some d) (Some e))
earlier_assoc (Some d) (Some e) (Some f) = grind (arith, nat_tests)

-- one more wait is looked at
pub first_due_step : (ps : List Pending) (i : ℕ) (d : Pending) (found : Option Due) → i < length ps →
    earlier (earlier found (due_of (get_or ps i d))) (first_due (drop (i + 1) ps)) ≡ earlier found (first_due (drop i ps))
first_due_step ps i d found lt =
    simp unary_clauses (earlier_assoc found (due_of (get_or ps i d)) (first_due (drop (suc i) ps)) ∙
    ap (λ qs. earlier found (first_due qs)) (sym (drop-cons ps i d lt)))

-- the one that comes before all others

abbrev pub ComesAfter : Due → Option Due → Type 0
ComesAfter d None = Unit {0}
ComesAfter d (Some e) = IsTrue (comes_before d e) ⊎ (e ≡ d)

keeps_left : (d : Due) (o : Option Due) → ComesAfter d o → earlier (Some d) o ≡ Some d
keeps_left d None after = refl
keeps_left d (Some e) (inl before) = grind (arith, nat_tests)
keeps_left d (Some e) (inr same) = either (comes_before e d)
  where
    either : (b : Bool) → (if b then Some e else Some d) ≡ Some d
    either true = ap Some same
    either false = refl

takes_right : (d : Due) (o : Option Due) → ComesAfter d o → earlier o (Some d) ≡ Some d
takes_right d None after = refl
takes_right d (Some e) (inl before) = grind (arith, nat_tests)
takes_right d (Some e) (inr same) = either (comes_before d e)
  where
    either : (b : Bool) → (if b then Some d else Some e) ≡ Some d
    either true = refl
    either false = ap Some same

all_after : (d : Due) (ps : List Pending) → ((i : ℕ) (p : Pending) → slice_get ps i ≡ Some p → ComesAfter d (due_of p)) →
    ComesAfter d (first_due ps)
all_after d [] after = tt
all_after d (p ∷ ps) after = of_both (due_of p) (first_due ps) (after 0 p refl) (all_after d ps (λ i q h. after (suc i) q h))
  where
    of_one : (b : Bool) (e f : Due) → ComesAfter d (Some e) → ComesAfter d (Some f) → ComesAfter d (if b then Some f else Some e)
    of_one true e f left right = right
    of_one false e f left right = left

    of_both : (a b : Option Due) → ComesAfter d a → ComesAfter d b → ComesAfter d (earlier a b)
    of_both None b left right = right
    of_both (Some e) None left right = left
    of_both (Some e) (Some f) left right = of_one (comes_before f e) e f left right

pub first_due_is : (ps : List Pending) (k : ℕ) (p : Pending) (d : Due) → slice_get ps k ≡ Some p → due_of p ≡ Some d →
    ((i : ℕ) (q : Pending) → slice_get ps i ≡ Some q → ComesAfter d (due_of q)) → first_due ps ≡ Some d
first_due_is [] k p d there due after = absurd (none-some p there)
first_due_is (q ∷ ps) zero p d there due after =
    ap (λ o. earlier o (first_due ps)) (ap due_of (same_Some q p there) ∙ due) ∙
    keeps_left d (first_due ps) (all_after d ps (λ i r h. after (suc i) r h))
first_due_is (q ∷ ps) (suc k) p d there due after =
    ap (earlier (due_of q)) (first_due_is ps k p d there due (λ i r h. after (suc i) r h)) ∙ takes_right d (due_of q) (after 0 q refl)

pub none_due : (ps : List Pending) → ((i : ℕ) (p : Pending) → slice_get ps i ≡ Some p → due_of p ≡ None) → first_due ps ≡ None
none_due [] none = refl
none_due (p ∷ ps) none = rw (none 0 p refl) (none_due ps (λ i q h. none (suc i) q h))
