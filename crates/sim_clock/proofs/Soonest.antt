-- The least moment of an index is that of the wait that is due first.
use Rattle.std.proofs.Common.{◌≡◌, ℕ, zero, suc, eqb, inl, inr, Bool, true, false, ◌||◌, List, [], ◌∷◌, slice_get, Option, Some, None, refl}
use Rattle.std.proofs.Common.{sym, ◌∙◌, ap, arith}
use mathlib.Core.Bool.{false≢true}
use Rattle.std.specs.Ordering.{nat_cmp}
use Rattle.std.specs.BTreeMap.{BTreeMap, is_at, values}
use Rattle.std.specs.Map.{values_of}
use Rattle.std.proofs.lemmas.Bool.Decides.{nat_tests}
use Rattle.std.proofs.lemmas.Cmp.{nat_cmp_total}
use Rattle.std.proofs.lemmas.Map.Entries.{btree_map_get_place, place_from_lookup}
use Rattle.std.proofs.lemmas.Option.{none-some, same_Some}
use Rattle.std.proofs.lemmas.Bool.{cases_Bool}
use Rattle.sim_clock.specs.declared.waits.WaitKind.{WaitKind}
use Rattle.sim_clock.specs.declared.waits.WaitKind.TheVariants.{At, Never, Task, Event}
use Rattle.sim_clock.specs.declared.waits.Wait.{Wait}
use Rattle.sim_clock.specs.declared.waits.Wake.{Wake}
use Rattle.sim_clock.specs.declared.waits.Due.{Due}
use Rattle.sim_clock.specs.declared.waits.Pending.{Pending}
use Rattle.sim_clock.specs.declared.places.Where.TheVariants.{Timed, Woken}
use Rattle.sim_clock.specs.declared.index.Index.{Index}
use Rattle.sim_clock.specs.Pending.{due_from, due_of, first_due}
use Rattle.sim_clock.specs.Places.{place_of, where_of, same_place, has_moment}
use Rattle.sim_clock.specs.Marked.{IsLeast, comes_first}
use Rattle.sim_clock.specs.IndexView.{holds}
use Rattle.sim_clock.specs.Indexed.{IsIndexed, IsGiven, at_number, stands_at}
use Rattle.sim_clock.proofs.Pair.{number_tied}
use Rattle.sim_clock.proofs.Numbered.{kept_found}
use Rattle.sim_clock.proofs.First.{ComesAfter, first_due_is, none_due}

-- the moment of one wait

abbrev stands_with : WaitKind → Option Wake → ℕ → Bool
stands_with kind o at = same_place (Timed at) (place_of kind o) || same_place (Woken at) (place_of kind o)

has_its_moment : (kind : WaitKind) (o : Option Wake) (wake : Wake) → IsGiven kind o → o ≡ Some wake → stands_with kind o wake.at ≡ true
has_its_moment (At t) o wake given is = let same : t ≡ wake.at = ap (λ (w : Wake). w.at) (same_Some _ wake (sym given ∙ is)) in
    grind (arith, nat_tests)
has_its_moment Never o wake given is = absurd (none-some wake (sym given ∙ is))
has_its_moment (Task t) None wake given is = absurd (none-some wake is)
has_its_moment (Task t) (Some v) wake given is = let same : v.at ≡ wake.at = ap (λ (w : Wake). w.at) (same_Some v wake is) in
    grind (arith, nat_tests)
has_its_moment (Event c) None wake given is = absurd (none-some wake is)
has_its_moment (Event c) (Some v) wake given is = let same : v.at ≡ wake.at = ap (λ (w : Wake). w.at) (same_Some v wake is) in
    grind (arith, nat_tests)

its_moment : (kind : WaitKind) (o : Option Wake) (at : ℕ) → IsGiven kind o → stands_with kind o at ≡ true →
    (wake : Wake) × (o ≡ Some wake) × (wake.at ≡ at)
its_moment (At t) o at given stands = (record { at = t; cause = 0 }, given, grind (arith, nat_tests))
its_moment Never o at given stands = absurd (false≢true stands)
its_moment (Task t) None at given stands = absurd (false≢true stands)
its_moment (Task t) (Some v) at given stands = (v, refl, grind (arith, nat_tests))
its_moment (Event c) None at given stands = absurd (false≢true stands)
its_moment (Event c) (Some v) at given stands = (v, refl, grind (arith, nat_tests))

-- the waits as a list

value_entry : (es : List (ℕ × Pending)) (i : ℕ) (p : Pending) → slice_get (values_of es) i ≡ Some p →
    (k : ℕ) × (slice_get es i ≡ Some (k, p))
value_entry [] i p there = absurd (none-some p there)
value_entry (e ∷ es) zero p there = (e.0, ap (λ q. Some (e.0, q)) (same_Some e.1 p there))
value_entry (e ∷ es) (suc i) p there = value_entry es i p there

entry_value : (es : List (ℕ × Pending)) (i k : ℕ) (p : Pending) → slice_get es i ≡ Some (k, p) → slice_get (values_of es) i ≡ Some p
entry_value [] i k p there = absurd (none-some (k, p) there)
entry_value (e ∷ es) zero k p there = ap (λ (x : ℕ × Pending). Some x.1) (same_Some e (k, p) there)
entry_value (e ∷ es) (suc i) k p there = entry_value es i k p there

module _ (m : BTreeMap ℕ Pending) (i : Index) (indexed : IsIndexed m i) where
  -- a wait that is found has its number, and the index tells its moment
  number_is : (n : ℕ) (p : Pending) → at_number m n ≡ Some p → p.wait.number ≡ n
  number_is n p found =
      let tied : eqb p.wait.number n ≡ true = sym (number_tied n p.wait.number) ∙
      (kept_found m.entries (is_at (nat_cmp n)) p indexed.kept found).0 in
      grind (arith, nat_tests)

  given_is : (n : ℕ) (p : Pending) → at_number m n ≡ Some p → IsGiven p.wait.kind p.wake
  given_is n p found = (kept_found m.entries (is_at (nat_cmp n)) p indexed.kept found).1

  moment_is : (at n : ℕ) (p : Pending) → at_number m n ≡ Some p → has_moment (holds i) at n ≡ stands_with p.wait.kind p.wake at
  moment_is at n p found =
      ap (λ b. b || holds i (Woken at) n) (indexed.placed (Timed at) n ∙ ap (λ o. stands_at o (Timed at)) found)
      ∙ ap (λ b. same_place (Timed at) (where_of p) || b) (indexed.placed (Woken at) n ∙ ap (λ o. stands_at o (Woken at)) found)

  in_list : (k : ℕ) (p : Pending) → slice_get (values m) k ≡ Some p → at_number m p.wait.number ≡ Some p
  in_list k p there =
      let e = value_entry m.entries k p there in
      let found = btree_map_get_place nat_cmp_total m k e.0 p indexed.ordered e.1 in
      ap (at_number m) (number_is e.0 p found) ∙ found

  pub none_is_due : ((at n : ℕ) → has_moment (holds i) at n ≡ false) → first_due (values m) ≡ None
  none_is_due none = none_due (values m) (λ k p there.
      let found = in_list k p there in
      no_wake p.wake (λ wake is. false≢true (sym (none wake.at p.wait.number) ∙ moment_is wake.at p.wait.number p found ∙
      has_its_moment p.wait.kind p.wake wake (given_is p.wait.number p found) is)) p.wait)
    where
      no_wake : (o : Option Wake) → ((wake : Wake) → o ≡ Some wake → ⊥) → (w : Wait) → due_from w o ≡ None
      no_wake None none w = refl
      no_wake (Some wake) none w = absurd (none wake refl)

  -- where a moment is, there is a wait
  pub no_moment : (at n : ℕ) → at_number m n ≡ None → has_moment (holds i) at n ≡ false
  no_moment at n absent =
      ap (λ b. b || holds i (Woken at) n) (indexed.placed (Timed at) n ∙ ap (λ o. stands_at o (Timed at)) absent)
      ∙ indexed.placed (Woken at) n ∙ ap (λ o. stands_at o (Woken at)) absent

  module _ (at n : ℕ) (least : IsLeast (has_moment (holds i)) at n) (p : Pending) (found : at_number m n ≡ Some p) where
    the_wake : (wake : Wake) × (p.wake ≡ Some wake) × (wake.at ≡ at)
    the_wake = its_moment p.wait.kind p.wake at (given_is n p found) (sym (moment_is at n p found) ∙ least.member)

    the_due : Due
    the_due = record { at = the_wake.0.at; number = p.wait.number; task = p.wait.task; cause = the_wake.0.cause }

    its_due : due_of p ≡ Some the_due
    unfolding the_due
    its_due = ap (due_from p.wait) the_wake.1

    -- another that is due comes after it
    other_after : (q : Pending) → at_number m q.wait.number ≡ Some q → (o : Option Wake) → q.wake ≡ o →
        ComesAfter the_due (due_from q.wait o)
    unfolding the_due
    other_after q other None is = tt
    other_after q other (Some wake) is =
        let there = moment_is wake.at q.wait.number q other ∙ has_its_moment q.wait.kind q.wake wake (given_is q.wait.number q other) is in
        let not_before = least.least wake.at q.wait.number there in
        let mine = number_is n p found in
        elim (cases_Bool (comes_first at n wake.at q.wait.number)) [
          | inl before ↦ inl (rw (the_wake.2, mine) before)
          | inr tied ↦
              let same : q.wait.number ≡ n = grind (arith, nat_tests, not_before, tied) in
              let one : q ≡ p = same_Some q p (sym other ∙ ap (at_number m) same ∙ found) in
              let due : Some (record { at = wake.at; number = q.wait.number; task = q.wait.task; cause = wake.cause }) ≡ Some the_due =
              sym (ap (due_from q.wait) is) ∙ ap due_of one ∙ its_due in
              inr (same_Some _ _ due)
        ]

    pub least_is_first : due_of p ≡ first_due (values m)
    least_is_first =
        let place = place_from_lookup (is_at (nat_cmp n)) m.entries p found in
        its_due ∙ sym (first_due_is (values m) place.0 p the_due (entry_value m.entries place.0 place.1 p place.2) its_due
        (λ k q there. other_after q (in_list k q there) q.wake refl))
