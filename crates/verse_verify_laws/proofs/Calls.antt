-- Calls, returns and spawns.
use Rattle.std.proofs.Common.{◌≡◌, ℕ, suc, length, List, [], ◌∷◌, Option, Some, None, Bool, true, false}
use Rattle.std.proofs.Common.{refl, sym, subst}
use Rattle.std.specs.Prelude.{◌||◌, not, slice_get}
use Rattle.std.proofs.lemmas.Option.{none-some}
use Rattle.std.proofs.lemmas.Bool.{and_parts, not-true}
use Rattle.verse_code.specs.declared.operations.Op.{Op}
use Rattle.verse_code.specs.declared.operations.Op.TheVariants as o
use Rattle.verse_code.specs.declared.codes.Class.{Class}
use Rattle.verse_code.specs.declared.codes.Code.{Code}
use Rattle.verse_meaning_state.specs.Waits.{eqn}
use Rattle.verse_code_machine_parents.proofs.Lists.{no_both}
use Rattle.verse_sorts.specs.Sorts as s
use Rattle.verse_sorts.specs.Sorts.{Sort, Sorts, from_never, fits_list}
use Rattle.verse_verify_kept.specs.Notes.{FuncNote, Point, Notes}
use Rattle.verse_verify_kept.specs.Rules as r
use Rattle.verse_verify_faults.specs.Fitting.{each_fit}
use Rattle.verse_verify_faults.specs.Spots.{Spot, Table, above, even, cut}
use Rattle.verse_verify_faults.specs.Stepping as step
use Rattle.verse_verify_faults.specs.Stepping.{Made, is, list_of, one_of, Stepped, Goes, inner, begins_arm}
use Rattle.verse_verify_faults.specs.Stepping.{begins_block, leads, goes_on, to}
use Rattle.verse_verify_faults.specs.Faults.{may_fail, may_wait}
use Rattle.verse_verify_faults.proofs.Fitting.{fit_is, each_fit_is}
use Rattle.verse_verify_faults.proofs.Leading.{notes}
use Rattle.verse_verify_laws.proofs.Steps.{Fine, led, needed, there, popped, many}
use Rattle.verse_verify_laws.proofs.Holding as holding
use Rattle.verse_verify_laws.proofs.Holding.{may_fail_is, may_wait_is, quiet_in, none_is, nil_is}
use Rattle.verse_verify_laws.proofs.Going.{pushed_one}

implied : (a b : Bool) → (not a || b) ≡ true → a ≡ true → b ≡ true
implied true b e f = e
implied false b e f = no_both (sym f)

module _ (c : Code) (t : Table) (p : Spot) (i : ℕ) (ev : even (length p.stack) p.tries ≡ true) where
  abbrev N : Notes
  N = notes c t

  abbrev P : Point
  P = cut p

  abbrev st : List Sort
  st = above p.stack p.tries

  abbrev Done : Op → Type 0
  Done op = Fine c t p i op (step.step c t p i op st)

  abbrev Passed : Op → Type 0
  Passed op = r.Passes c N i P op

  -- the function called
  may_call : (g : FuncNote) → (not g.may_fail || may_fail c t p) ≡ true → (not g.may_wait || may_wait c t p) ≡ true →
      r.MayCall c N P g
  may_call g f w = record {
    fails = λ e. may_fail_is c t p (implied g.may_fail (may_fail c t p) f e);
    waits = λ e. may_wait_is c t p (implied g.may_wait (may_wait c t p) w e);
  }

  pub call_passes : {f : ℕ} → Done (o.Call f) → Passed (o.Call f)
  call_passes f =
      let q = there c t p i _ _ f in
      let g = there c t p i _ _ q.next in
      let x = many c t p i _ q.it.params st [] _ g.next in
      let n = needed c t p i _ _ x.next in
      let k = led c t p i _ n.next in
      r.of_call q.is g.is x.pops (each_fit_is t.classes x.sorts g.it.params n.is) (may_call g.it k.fails k.waits)
      (pushed_one c t p i ev k.suit)

  pub spawn_passes : {f : ℕ} → Done (o.Spawn f) → Passed (o.Spawn f)
  spawn_passes f =
      let q = there c t p i _ _ f in
      let g = there c t p i _ _ q.next in
      let x = many c t p i _ q.it.params st [] _ g.next in
      let n = needed c t p i _ _ x.next in
      let k = led c t p i _ n.next in
      r.of_spawn (may_wait_is c t p k.waits) q.is g.is x.pops (each_fit_is t.classes x.sorts g.it.params n.is) (not-true
      g.it.may_fail k.sure)
      (pushed_one c t p i ev k.suit)

  method_is : (d m : ℕ) (g : FuncNote) → step.note_of t.functions (step.methods_of (slice_get c.classes d) m) ≡ Some g →
      r.Method c N (s.obj d) m g
  method_is d m g e = by_class (slice_get c.classes d) refl e
    where
      by_number : (k : Class) (x : Option ℕ) → slice_get c.classes d ≡ Some k → slice_get k.methods m ≡ x →
          step.note_of t.functions x ≡ Some g → r.Method c N (s.obj d) m g
      by_number k None h n e = elim (none-some _ e) [ ]
      by_number k (Some j) h n e = r.method h n e

      by_class : (x : Option Class) → slice_get c.classes d ≡ x → step.note_of t.functions (step.methods_of x m) ≡ Some
          g →
          r.Method c N (s.obj d) m g
      by_class None h e = elim (none-some _ e) [ ]
      by_class (Some k) h e = by_number k (slice_get k.methods m) h refl e

  pub method_passes : {m k : ℕ} → Done (o.Method m k) → Passed (o.Method m k)
  method_passes {m = m} {k = k} f =
      let x = many c t p i _ k st [] _ f in
      let y = popped c t p i _ x.next in
      by_sort y.top x.sorts y.rest (subst (r.Pops k st [] x.sorts) y.is x.pops) y.next
    where
      by_sort : (a : Sort) (xs rest : List Sort) → r.Pops k st [] xs (a ∷ rest) → Fine c t p i (o.Method m k)
          (step.on_method c t a m (goes_on
          c t p i (is s.never ∷ []) rest) (λ g. step.need 6 (eqn (length g.params) (suc k)) (step.need 5 (each_fit
          t.classes (a ∷ xs) g.params)
          (step.calls c t p i g g.result rest)))) → Passed (o.Method m k)
      by_sort (s.obj d) xs rest ps f =
          let g = there c t p i _ _ f in
          let n = needed c t p i _ _ g.next in
          let z = needed c t p i _ _ n.next in
          let l = led c t p i _ z.next in
          r.of_method ps (method_is d m g.it g.is) (each_fit_is t.classes (s.obj d ∷ xs) g.it.params z.is) (may_call
          g.it l.fails l.waits)
          (pushed_one c t p i ev l.suit)
      by_sort s.never xs rest ps f = r.of_no_method ps (pushed_one c t p i ev (led c t p i _ f).suit)
      by_sort a xs rest ps f = elim (none-some _ (sym f.none)) [ ]

  pub spawn_method_passes : {m k : ℕ} → Done (o.SpawnMethod m k) → Passed (o.SpawnMethod m k)
  spawn_method_passes {m = m} {k = k} f =
      let x = many c t p i _ k st [] _ f in
      let y = popped c t p i _ x.next in
      by_sort y.top x.sorts y.rest (subst (r.Pops k st [] x.sorts) y.is x.pops) y.next
    where
      by_sort : (a : Sort) (xs rest : List Sort) → r.Pops k st [] xs (a ∷ rest) → Fine c t p i (o.SpawnMethod m k)
          (step.on_method c t a m
          (goes_on c t p i (is (s.task s.never) ∷ []) rest) (λ g. step.need 6 (eqn (length g.params) (suc k))
          (step.need 5 (each_fit
          t.classes (a ∷ xs) g.params) (step.calls c t p i g (s.task g.result) rest)))) → Passed (o.SpawnMethod m k)
      by_sort (s.obj d) xs rest ps f =
          let g = there c t p i _ _ f in
          let n = needed c t p i _ _ g.next in
          let z = needed c t p i _ _ n.next in
          let l = led c t p i _ z.next in
          r.of_spawn_method (may_wait_is c t p l.waits) ps (method_is d m g.it g.is) (each_fit_is t.classes (s.obj d ∷
          xs) g.it.params z.is)
          (not-true g.it.may_fail l.sure) (pushed_one c t p i ev l.suit)
      by_sort s.never xs rest ps f =
          let l = led c t p i _ f in
          r.of_no_spawn_method (may_wait_is c t p l.waits) ps (pushed_one c t p i ev l.suit)
      by_sort a xs rest ps f = elim (none-some _ (sym f.none)) [ ]

  pub return_passes : Done o.Return → Passed o.Return
  return_passes f =
      let x = popped c t p i _ f in
      let g = there c t p i _ _ x.next in
      let n = needed c t p i _ _ g.next in
      let l = led c t p i _ n.next in
      r.of_return x.is (holding.no_tries c t p l.fit) (none_is p.arm (and_parts _ _ (and_parts _ _ l.parts).0).0) (none_is
      p.block (and_parts _ _ (and_parts _ _
      l.parts).0).1) (nil_is p.defers (and_parts _ _ l.parts).1) g.is (fit_is t.classes x.top g.it.result n.is)
