-- One wait is woken, and then another, until none waits for this any more.
use Rattle.std.proofs.Common.{◌≡◌, ℕ, suc, eqb, inl, inr, Bool, true, false, if◌then◌else◌, ◌&&◌, List, [], ◌∷◌, map, slice_get, Option}
use Rattle.std.proofs.Common.{Some, None, refl, sym, ap, subst, ◌∙◌, arith}
use mathlib.Core.Bool.{false≢true}
use Rattle.std.specs.Ordering.{nat_cmp}
use Rattle.std.specs.BTreeMap.{BTreeMap, IsOrdered, is_at, values}
use Rattle.std.specs.Map.{lookup, set_value, values_of}
use Rattle.std.proofs.lemmas.Bool.Decides.{nat_tests}
use Rattle.std.proofs.lemmas.Cmp.{nat_cmp_total}
use Rattle.std.proofs.lemmas.Map.Entries.{btree_map_get_place}
use Rattle.std.proofs.lemmas.Option.{same_Some}
use Rattle.std.proofs.lemmas.Bool.{cases_Bool}
use Rattle.sim_clock.specs.declared.waits.WaitKind.{WaitKind}
use Rattle.sim_clock.specs.declared.waits.WaitKind.TheVariants.{At, Never, Task, Event}
use Rattle.sim_clock.specs.declared.waits.Wait.{Wait}
use Rattle.sim_clock.specs.declared.waits.Wake.{Wake}
use Rattle.sim_clock.specs.declared.waits.Pending.{Pending}
use Rattle.sim_clock.specs.declared.places.Where.{Where}
use Rattle.sim_clock.specs.declared.places.Where.TheVariants.{Timed, OnEvent, OnTask, Woken, Nowhere}
use Rattle.sim_clock.specs.declared.index.Index.{Index}
use Rattle.sim_clock.specs.Pending.{woken, woken_one}
use Rattle.sim_clock.specs.Places.{place_of, where_of, same_place, kind_at, IsAsleep}
use Rattle.sim_clock.specs.Indexed.{IsIndexed, AllKept, IsGiven, Changed, at_number, stands_at, stirred}
use Rattle.sim_clock.specs.IndexView.{holds}
use Rattle.sim_clock.proofs.Placed.{asleep_is, moving}

-- what waits for this, and is woken

pub stirred_place : (p : Pending) (wake : Wake) → IsAsleep (where_of p) → where_of (stirred p wake) ≡ Woken wake.at
stirred_place p wake asleep = by_kind p.wait.kind p.wake asleep
  where
    by_kind : (kind : WaitKind) (o : Option Wake) → IsAsleep (place_of kind o) → place_of kind (Some wake) ≡ Woken wake.at
    by_kind (At t) o h = absurd h
    by_kind Never o h = absurd h
    by_kind (Task t) None h = refl
    by_kind (Task t) (Some v) h = absurd h
    by_kind (Event c) None h = refl
    by_kind (Event c) (Some v) h = absurd h

stirred_given : (p : Pending) (wake : Wake) → IsAsleep (where_of p) → IsGiven p.wait.kind (Some wake)
stirred_given p wake asleep = by_kind p.wait.kind p.wake asleep
  where
    by_kind : (kind : WaitKind) (o : Option Wake) → IsAsleep (place_of kind o) → IsGiven kind (Some wake)
    by_kind (At t) o h = absurd h
    by_kind Never o h = absurd h
    by_kind (Task t) o h = tt
    by_kind (Event c) o h = tt

woken_parts : (number task : ℕ) (kind : WaitKind) (o : Option Wake) (wake : Wake) → IsAsleep (place_of kind o) →
    let wait : Wait = record { number = number; task = task; kind = kind } in
    woken_one (kind_at (place_of kind o)) wake (record { wait = wait; wake = Some wake }) ≡
    woken_one (kind_at (place_of kind o)) wake (record { wait = wait; wake = o })
woken_parts number task (At t) o wake h = absurd h
woken_parts number task Never o wake h = absurd h
woken_parts number task (Task t) None wake h = grind (arith, nat_tests)
woken_parts number task (Task t) (Some v) wake h = absurd h
woken_parts number task (Event c) None wake h = grind (arith, nat_tests)
woken_parts number task (Event c) (Some v) wake h = absurd h

pub woken_stirred : (p : Pending) (wake : Wake) → IsAsleep (where_of p) → woken_one (kind_at (where_of p)) wake (stirred p wake) ≡
    woken_one (kind_at (where_of p)) wake p
woken_stirred p wake asleep = woken_parts p.wait.number p.wait.task p.wait.kind p.wake wake asleep

-- what does not wait for this stays

other_parts : (place : Where) (number task : ℕ) (kind : WaitKind) (o : Option Wake) (wake : Wake) → IsAsleep place →
    same_place place (place_of kind o) ≡ false →
    let p : Pending = record { wait = record { number = number; task = task; kind = kind }; wake = o } in
    woken_one (kind_at place) wake p ≡ p
other_parts (OnEvent a) number task (At t) o wake h other = refl
other_parts (OnEvent a) number task Never o wake h other = refl
other_parts (OnEvent a) number task (Task t) o wake h other = refl
other_parts (OnEvent a) number task (Event c) None wake h other = grind (arith, nat_tests)
other_parts (OnEvent a) number task (Event c) (Some v) wake h other = grind (arith, nat_tests)
other_parts (OnTask a) number task (At t) o wake h other = refl
other_parts (OnTask a) number task Never o wake h other = refl
other_parts (OnTask a) number task (Event c) o wake h other = refl
other_parts (OnTask a) number task (Task t) None wake h other = grind (arith, nat_tests)
other_parts (OnTask a) number task (Task t) (Some v) wake h other = grind (arith, nat_tests)
other_parts (Timed a) number task kind o wake h other = absurd h
other_parts (Woken a) number task kind o wake h other = absurd h
other_parts Nowhere number task kind o wake h other = absurd h

-- over all waits

pub woken_set : (kind : WaitKind) (wake : Wake) (es : List (ℕ × Pending)) (test : ℕ → Bool) (p q : Pending) → lookup test es ≡ Some p →
    woken_one kind wake q ≡ woken_one kind wake p → woken kind wake (values_of (set_value test es q)) ≡ woken kind wake (values_of es)
woken_set kind wake [] test p q found same = refl
woken_set kind wake (e ∷ es) test p q found same = elim (cases_Bool (test e.0)) [
  | inl here ↦ rw here (ap (λ x. x ∷ woken kind wake (values_of es))
      (same ∙ ap (woken_one kind wake) (sym (same_Some e.1 p (rw here at found)))))
  | inr there ↦ rw there (ap (λ ps. woken_one kind wake e.1 ∷ ps) (woken_set kind wake es test p q (rw there at found) same))
]

pub kept_set : (es : List (ℕ × Pending)) (test : ℕ → Bool) (p : Pending) (wake : Wake) → AllKept es → lookup test es ≡ Some p →
    IsAsleep (where_of p) → AllKept (set_value test es (stirred p wake))
kept_set [] test p wake kept found asleep = tt
kept_set (e ∷ es) test p wake kept found asleep = elim (cases_Bool (test e.0)) [
  | inl here ↦ rw here (
    ap (λ (q : Pending). q.wait.number) (sym (same_Some e.1 p (rw here at found))) ∙ kept.0,
    stirred_given p wake asleep,
    kept.2,
  )
  | inr there ↦ rw there (kept.0, kept.1, kept_set es test p wake kept.2 (rw there at found) asleep)
]

same_values : (f : Pending → Pending) (es : List (ℕ × Pending)) → ((i : ℕ) (e : ℕ × Pending) → slice_get es i ≡ Some e → f e.1 ≡ e.1) →
    map f (values_of es) ≡ values_of es
same_values f [] same = refl
same_values f (e ∷ es) same = rw (same 0 e refl) (ap (λ ps. e.1 ∷ ps) (same_values f es (λ i x h. same (suc i) x h)))

pub none_woken : (m : BTreeMap ℕ Pending) (i : Index) (place : Where) (wake : Wake) → IsIndexed m i → IsAsleep place →
    ((n : ℕ) → stands_at (at_number m n) place ≡ false) → woken (kind_at place) wake (values m) ≡ values m
none_woken m i place wake indexed asleep none = same_values _ m.entries (λ k e here.
    let found = btree_map_get_place nat_cmp_total m k e.0 e.1 indexed.ordered here in
    other_parts place e.1.wait.number e.1.wait.task e.1.wait.kind e.1.wake wake asleep (rw found at (none e.0)))

standing : (o : Option Pending) (place : Where) → IsAsleep place → stands_at o place ≡ true →
    (p : Pending) × (o ≡ Some p) × (place ≡ where_of p)
standing None place asleep there = absurd (false≢true there)
standing (Some p) place asleep there = (p, refl, asleep_is place (where_of p) asleep there)

-- one more is woken
module _ (m m' : BTreeMap ℕ Pending) (i i' : Index) (place : Where) (n : ℕ) (wake : Wake) (indexed : IsIndexed m i)
    (asleep : IsAsleep place) (there : holds i place n ≡ true)
    (entries : (p : Pending) → at_number m n ≡ Some p → m'.entries ≡ set_value (is_at (nat_cmp n)) m.entries (stirred p wake))
    (changed : (p : Pending) → at_number m n ≡ Some p → Changed (at_number m) (at_number m') n (Some (stirred p wake))) where
  found : (p : Pending) × (at_number m n ≡ Some p) × (place ≡ where_of p)
  found = standing (at_number m n) place asleep (sym (indexed.placed place n) ∙ there)

  p_asleep : IsAsleep (where_of found.0)
  p_asleep = subst IsAsleep found.2 asleep

  pub next_left : woken (kind_at place) wake (values m') ≡ woken (kind_at place) wake (values m)
  next_left =
      let p = found.0 in
      let Same : Where → Type 0 = λ w. woken_one (kind_at w) wake (stirred p wake) ≡ woken_one (kind_at w) wake p in
      let same : Same place = subst Same (sym found.2) (woken_stirred p wake p_asleep) in
      ap (λ es. woken (kind_at place) wake (values_of es)) (entries p found.1) ∙
      woken_set (kind_at place) wake m.entries (is_at (nat_cmp n)) p (stirred p wake) found.1 same

  pub next_indexed : IsOrdered nat_cmp m' →
      ((w : Where) (k : ℕ) → holds i' w k ≡ (if same_place w (Woken wake.at) && eqb k n then true else if same_place w place && eqb k n then
      false else holds i w k)) → IsIndexed m' i'
  next_indexed ordered moved = record {
    ordered = ordered;
    kept = rw (entries found.0 found.1) (kept_set m.entries (is_at (nat_cmp n)) found.0 wake indexed.kept found.1 p_asleep);
    placed = moving _ _ _ _ n indexed.placed place wake.at (stirred found.0 wake) (stirred_place found.0 wake p_asleep)
        (λ w. ap (λ o. stands_at o w) found.1 ∙ ap (same_place w) (sym found.2)) (changed found.0 found.1) moved;
  }
