-- Calls, returns and spawns.
use Rattle.std.proofs.Common.{◌≡◌, ℕ, suc, ◌+◌, length, List, [], ◌∷◌, Option, Some, true, false}
use Rattle.std.proofs.Common.{refl, sym, subst, arith}
use Rattle.std.specs.Prelude.{◌&&◌, ◌||◌, not, slice_get}
use Rattle.std.proofs.lemmas.Bool.{and_from}
use Rattle.verse_code.specs.declared.operations.Op.{Op}
use Rattle.verse_code.specs.declared.operations.Op.TheVariants as o
use Rattle.verse_code.specs.declared.codes.Class.{Class}
use Rattle.verse_code.specs.declared.codes.Code.{Code}
use Rattle.verse_meaning_state.specs.Waits.{eqn}
use Rattle.verse_sorts.specs.Sorts.{Sort}
use Rattle.verse_verify_kept.specs.Notes.{FuncNote, Point, Notes, parent_of}
use Rattle.verse_verify_kept.specs.Rules as r
use Rattle.verse_verify_faults.specs.Spots.{Spot, Table, above, cut}
use Rattle.verse_verify_faults.specs.Stepping as step
use Rattle.verse_verify_faults.specs.Stepping.{Stepped}
use Rattle.verse_verify_faults.specs.Faults.{is_none, is_nil, may_fail, may_wait}
use Rattle.verse_verify_faults.proofs.Cutting.{fit_length}
use Rattle.verse_verify_faults.proofs.Leading.{notes, Fitting}
use Rattle.verse_verify_laws.proofs.Steps.{Fine}
use Rattle.verse_verify_laws.proofs.Simple.{pops_length}
use Rattle.verse_verify_clean.proofs.Fitting as fitting
use Rattle.verse_verify_clean.proofs.Leading.{suit_no, fits, each_fits}
use Rattle.verse_verify_clean.proofs.Steps.{Here, led, implied, needed, there, popped, many}
use Rattle.verse_verify_clean.proofs.Holding.{fails_back, waits_back, none_back, nil_back, no_opens}
use Rattle.verse_verify_clean.proofs.Values.{on_one}

module _ (c : Code) (t : Table) (p : Spot) (i : ℕ) (here : Here c t p i) where
  abbrev N : Notes
  N = notes c t

  abbrev P : Point
  P = cut p

  abbrev st : List Sort
  st = above p.stack p.tries

  abbrev Done : Op → Type 0
  Done op = Fine c t p i op (step.step c t p i op st)

  abbrev Passed : Op → Type 0
  Passed op = r.Passes c N i P op

  may_call_fails : (g : FuncNote) → r.MayCall c N P g → (not g.may_fail || may_fail c t p) ≡ true
  may_call_fails g m = implied g.may_fail (may_fail c t p) (λ e. fails_back c t p (m.fails e))

  may_call_waits : (g : FuncNote) → r.MayCall c N P g → (not g.may_wait || may_wait c t p) ≡ true
  may_call_waits g m = implied g.may_wait (may_wait c t p) (λ e. waits_back c t p (m.waits e))

  sure_of : (g : FuncNote) → g.may_fail ≡ false → not g.may_fail ≡ true
  sure_of g e = subst (λ b. not b ≡ true) (sym e) refl

  pub call_back : {f : ℕ} → Passed (o.Call f) → Done (o.Call f)
  call_back (r.of_call {g = g} e h ps f m l) =
      there c t p i here _ 6 _ e (there c t p i here _ 6 _ h (many c t p i here _ _ ps
      (needed c t p i here _ 5 (each_fits c t here.told f)
      (led c t p i here _ (on_one c t p i here _ l) refl (may_call_fails g m) refl (may_call_waits g m) refl refl))))

  pub spawn_back : {f : ℕ} → Passed (o.Spawn f) → Done (o.Spawn f)
  spawn_back (r.of_spawn {g = g} w e h ps f m l) =
      there c t p i here _ 6 _ e (there c t p i here _ 6 _ h (many c t p i here _ _ ps
      (needed c t p i here _ 5 (each_fits c t here.told f)
      (led c t p i here _ (on_one c t p i here _ l) refl refl refl (waits_back c t p w) (sure_of g m) refl))))

  noted_method : (d m : ℕ) {f : ℕ} {k : Class} {g : FuncNote} → slice_get c.classes d ≡ Some k → slice_get k.methods m ≡ Some f →
      slice_get t.functions f ≡ Some g → step.note_of t.functions (step.methods_of (slice_get c.classes d) m) ≡ Some g
  noted_method d m {g = g} e h n =
      subst (λ (x : Option Class). step.note_of t.functions (step.methods_of x m) ≡ Some g) (sym e)
      (subst (λ x. step.note_of t.functions x ≡ Some g) (sym h) n)

  as_many : {k : ℕ} {a : Sort} {xs us ps rest : List Sort} → r.Pops k us [] xs rest → Fitting c t (a ∷ xs) ps →
      eqn (length ps) (suc k) ≡ true
  as_many {k = k} {xs = xs} {ps = ps} q f =
      fitting.same_number (length ps) (suc k)
      (counts k (length xs) (length ps) (pops_length q) (fit_length (parent_of N) f))
    where
      counts : (k n m : ℕ) → n ≡ k + 0 → suc n ≡ m → m ≡ suc k
      counts k n m e f = omega (arith, e, f)

  pub method_back : {m k : ℕ} → Passed (o.Method m k) → Done (o.Method m k)
  method_back (r.of_method {g = g} ps (r.method e h n) f m l) =
      many c t p i here _ _ ps (there c t p i here _ 6 _ (noted_method _ _ e h n)
      (needed c t p i here _ 6 (as_many ps f) (needed c t p i here _ 5 (each_fits c t here.told f)
      (led c t p i here _ (on_one c t p i here _ l) refl (may_call_fails g m) refl (may_call_waits g m) refl refl))))
  method_back (r.of_no_method ps l) =
      many c t p i here _ _ ps (led c t p i here _ (on_one c t p i here _ l) refl refl refl refl refl refl)

  pub spawn_method_back : {m k : ℕ} → Passed (o.SpawnMethod m k) → Done (o.SpawnMethod m k)
  spawn_method_back (r.of_spawn_method {g = g} w ps (r.method e h n) f m l) =
      many c t p i here _ _ ps (there c t p i here _ 6 _ (noted_method _ _ e h n)
      (needed c t p i here _ 6 (as_many ps f) (needed c t p i here _ 5 (each_fits c t here.told f)
      (led c t p i here _ (on_one c t p i here _ l) refl refl refl (waits_back c t p w) (sure_of g m) refl))))
  spawn_method_back (r.of_no_spawn_method w ps l) =
      many c t p i here _ _ ps (led c t p i here _ (on_one c t p i here _ l) refl refl refl (waits_back c t p w) refl refl)

  pub return_back : Passed o.Return → Done o.Return
  return_back (r.of_return e tries arm block defers h f) =
      popped c t p i here _ _ e (there c t p i here _ 6 _ h (needed c t p i here _ 5 (fits c t here.told f)
      (led c t p i here _ suit_no (nil_back p.tries (no_opens p.stack p.tries tries)) refl refl refl refl
      (and_from (is_none p.arm && is_none p.block) (is_nil p.defers)
      (and_from (is_none p.arm) (is_none p.block) (none_back p.arm arm) (none_back p.block block))
      (nil_back p.defers defers)))))
