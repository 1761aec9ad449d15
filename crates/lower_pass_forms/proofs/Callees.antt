-- What is called, indexed, awaited or signalled: its operands, and the operation that ends it.
use Rattle.std.proofs.Common.{◌≡◌, ℕ, zero, suc, length, List, [], ◌∷◌, ◌++◌, Option, Some, Bool, true, refl, sym, ◌∙◌, subst, ap}
use Rattle.std.proofs.Common.{arith}
use Rattle.std.proofs.lemmas.Bool.Decides.{nat_tests}
use Rattle.std.specs.Prelude.{nat_eq}
use Rattle.verse_base.specs.declared.places.Place.{Place}
use Rattle.verse_tree.specs.ItemTree.{FunTree}
use Rattle.verse_code.specs.declared.codes.Code.{Code}
use Rattle.verse_code.specs.declared.operations.Op.TheVariants as o
use Rattle.verse_names_tables.specs.Names.{Table}
use Rattle.verse_sorts.specs.Sorts as s
use Rattle.verse_sorts.specs.Sorts.{Sort, Fits}
use Rattle.verse_sorts.specs.Typing.{at, AllFit}
use Rattle.verse_sorts.proofs.Fitting.{fits_itself}
use Rattle.verse_meaning.specs.Programs.{Program, fun_at}
use Rattle.verse_meaning.specs.Residuals as form
use Rattle.verse_meaning.specs.Residuals.{Form}
use Rattle.verse_sound_rules.specs.Found as rules
use Rattle.verse_sound_rules.specs.Found.{Allowed}
use Rattle.verse_sound_rules.specs.Forms.{Gives}
use Rattle.verse_sound_rules.specs.Programs.{FineFound}
use Rattle.verse_verify_kept.specs.Notes.{Notes, parent_of}
use Rattle.verse_verify_kept.specs.Rules.{Asked}
use Rattle.lower_code.specs.Pieces as c
use Rattle.lower_code.specs.Pieces.{Maker}
use Rattle.lower_code.specs.declared.arounds.Around.{Around}
use Rattle.lower_code.specs.Arounds.{up}
use Rattle.lower_code.specs.Scopes.{Scope, Found, fixed, varies, absent, this_found, is_fixed, push_fixed}
use Rattle.lower_code.specs.Applied as apply
use Rattle.lower_code.specs.Lowering.{takes_params, form_fits}
use Rattle.lower_notes.specs.States.{State, gives, gets}
use Rattle.lower_notes.specs.Stretches as n
use Rattle.lower_notes.specs.Stretches.{Walk, with_value}
use Rattle.lower_notes.specs.Applied as walks
use Rattle.lower_notes.specs.Laws.{Beside}
use Rattle.lower_notes.proofs.Counted as counted
use Rattle.lower_notes.proofs.Counted.{code_then, walk_then}
use Rattle.lower_notes.proofs.Others.{starts}
use Rattle.lower_sound.proofs.Counts.{Called, gives_told, gives_many}
use Rattle.lower_sound.proofs.Names.{params_many}
use Rattle.lower_pass_states.proofs.Points.{pt, over, even_over, gives_is}
use Rattle.lower_pass_states.proofs.Locals.{local_is}
use Rattle.lower_pass_stretches.proofs.Names.{IsOwn, is_own}
use Rattle.lower_pass_stretches.proofs.Going.{Way, If, itself, Going, Steady, then_goes}
use Rattle.lower_pass_stretches.proofs.Single.{none_goes}
use Rattle.lower_pass_states.proofs.Steps as step
use Rattle.lower_pass_states.proofs.Steps.{turned, turned_on, turned_length}
use Rattle.lower_pass_stretches.proofs.Inside.{Inside, steady_of, inside_up}
use Rattle.lower_pass_forms.proofs.Applied as applied
use Rattle.lower_pass_forms.proofs.Applied.{noted_found}
use Rattle.lower_pass_forms.proofs.Calls as calls
use Rattle.lower_pass_forms.proofs.Calls.{Declared}
use Rattle.lower_pass_forms.proofs.Finishing.{IsOver, last_goes, step_goes, over_itself, drops_go, so_goes, so_if, one_operand}
use Rattle.lower_pass_forms.proofs.Finishing.{two_operands}

module _ (p : Program) (found : rules.Found) (differ : ℕ → ℕ → Bool) (code : Code) (notes : Notes)
    (declared : Declared p found code notes) (fine : FineFound p (noted_found notes found)) (w : Way) (ts : List ℕ)
    (al : Allowed) (xs : Table) (sc : Scope) (a : Around) (x : Option State) where
  abbrev F : rules.Found
  F = noted_found notes found

  abbrev Here : Around → State → Type 0
  Here a y = Inside code notes F w ts al xs sc a y

  module _ (here : If x (Here a)) where
    steady : If x (Steady code notes ts)
    steady y e = steady_of code notes (here y e)

    -- the object of one's own method is read
    pub own_goes : (d : ℕ) → al.this ≡ Some d → Going code notes w ts x (push_fixed (this_found sc)) (walks.push_fixed (this_found sc))
        itself (IsOver code notes (s.obj d ∷ []) x)
    own_goes d e = by_local (this_found sc) (λ y k. (here y k).sees.own d e)
      where
        read : (l : ℕ) (y : State) → IsOwn F (length sc) y.locals d (fixed l) → at y.locals l ≡ Some (s.obj d)
        read l y (is_own k h) = h

        no_local : (l : ℕ) (y : State) → IsOwn F (length sc) y.locals d (varies l) → ⊥
        no_local l y h = elim h [ ]

        none_there : (y : State) → IsOwn F (length sc) y.locals d absent → ⊥
        none_there y h = elim h [ ]

        by_local : (r : Found) → If x (λ y. IsOwn F (length sc) y.locals d r) →
            Going code notes w ts x (push_fixed r) (walks.push_fixed r) itself (IsOver code notes (s.obj d ∷ []) x)
        by_local (fixed l) h = step_goes code notes (c.one (o.Get l)) (λ k. o.Get l) (λ k. refl) [] steady (over_itself code notes)
            (s.obj d ∷ []) (gets l) (λ y k. ap (λ z. over (z ∷ []) y) (local_is y.locals l (read l y (h y k))))
            (λ y k i m. step.get_asked code notes y (here y k).even m l (read l y (h y k)) tt (fits_itself (parent_of notes) (s.obj d)))
        by_local (varies l) h = step_goes code notes (c.one o.Unit) (λ k. o.Unit) (λ k. refl) [] steady (over_itself code notes)
            (s.obj d ∷ []) _ (λ y k. absurd (no_local l y (h y k))) (λ y k i m. absurd (no_local l y (h y k)))
        by_local absent h = step_goes code notes (c.one o.Unit) (λ k. o.Unit) (λ k. refl) [] steady (over_itself code notes) (s.obj d ∷ [])
            _ (λ y k. absurd (none_there y (h y k))) (λ y k i m. absurd (none_there y (h y k)))

    -- ---- calls of what has a name

    takes_so : (g : Option FunTree) (f : FunTree) (m : ℕ) → g ≡ Some f → length f.params ≡ m → takes_params p differ g m ≡ true
    takes_so g f m e many = subst (λ z. takes_params p differ z m ≡ true) (sym e)
        (let same : nat_eq (length f.params) m ≡ true = grind (arith, nat_tests, many) in same)

    called_so : (h m : ℕ) (has taken : List Sort) → m ≡ length has → length has ≡ length taken →
        Called p F al xs h taken → takes_params p differ (fun_at p h) m ≡ true
    called_so h m has taken e many k =
        let own = params_many F p [] k.function.params (F.signature h).params (fine.functions h k.function k.found).params in
        takes_so (fun_at p h) k.function m k.found (sym own ∙ sym (ap length k.operands) ∙ sym many ∙ sym e)

    own_so : (d : ℕ) → al.this ≡ Some d → If x (λ y. is_fixed (this_found sc) ≡ true)
    own_so d e y k = fixed_so (this_found sc) ((here y k).sees.own d e)
      where
        fixed_so : (r : Found) → IsOwn F (length sc) y.locals d r → is_fixed r ≡ true
        fixed_so (fixed l) h = refl
        fixed_so (varies l) h = elim h [ ]
        fixed_so absent h = elim h [ ]

    -- above an object
    up_if : {u : Option State} (d : ℕ) → If u (IsOver code notes (s.obj d ∷ []) x) → If u (Here (up a))
    up_if d i z e = let k = i z e in subst (Here (up a)) (sym k.1.1) (inside_up code notes (s.obj d) tt (here k.0 k.1.0))

    abbrev Whole : Form → ℕ → Sort → Maker → Walk → Type 0
    Whole f m q g h = Going code notes w ts x
        (code_then (apply.start f sc) (code_then g (apply.finish f m (form_fits p differ f m sc))))
        (walk_then (walks.start f sc) (walk_then h (walks.finish f m (form_fits p differ f m sc)))) (with_value q x) (λ z. Unit {0})

    module _ (q : Sort) (m : ℕ) (has : List Sort) (many : m ≡ length has) {g : Maker} {h : Walk} (beside : Beside g h) where
      -- the operands go above what stands there
      abbrev Run : Around → Type 0
      Run b = (u : Option State) (qs : List Sort) → If u (Here b) → If u (IsOver code notes qs x) →
          Going code notes w ts u g h itself (IsOver code notes (turned has qs) x)

      plain_run : Run a → Going code notes w ts x g h itself (IsOver code notes (turned has []) x)
      plain_run run = run x [] here (over_itself code notes)

      behind_none : (u : Option State) → If u (λ z. x ≡ Some z) → Run a →
          Going code notes w ts u g h itself (IsOver code notes (turned has []) x)
      behind_none u e run = run u [] (λ z k. here z (e z k)) (λ z k. (z, (e z k, refl)))

      pub call_goes : (k : ℕ) → Run a → Gives p F al xs (form.calling k) has q → Whole (form.calling k) m q g h
      call_goes k run e = then_goes code notes counted.none (none_goes code notes) (λ u i.
          then_goes code notes beside (behind_none u i run) (λ v j.
          so_goes code notes _ (called_so k m has e.taken many (gives_many p F al xs e) (gives_told p F al xs e))
          (last_goes code notes (c.one (o.Call k)) (λ s. o.Call k) (λ s. refl) (turned has []) steady j q (λ y r s t. let z = here y r in
          calls.call_passes p found code notes declared fine al xs y z.even t z.fails z.waits k e.operands e.takes e.value))))

      pub print_goes : (pl : Place) → Run a → Gives p F al xs (form.printing pl) has q → Whole (form.printing pl) m q g h
      print_goes pl run e = then_goes code notes counted.none (none_goes code notes) (λ u i.
          then_goes code notes beside (behind_none u i run) (λ v j.
          one_operand code notes m (many ∙ gives_many p F al xs e ∙ gives_told p F al xs e)
          (last_goes code notes (c.placed pl o.Print) (λ s. o.Print s.place) (λ s. refl) (turned has []) steady j q (λ y r s t.
          let one = many_one has (gives_many p F al xs e ∙ gives_told p F al xs e) in
          let z = here y r in
          subst (λ zs. AllFit (parent_of notes) zs e.taken → Asked code notes s.at (pt (over (turned zs []) y)) (o.Print s.place))
          (sym one.1) (λ k. applied.print_passes p found code notes al xs y z.even t pl s.place k e.takes e.value) e.operands))))
        where
          many_one : (has : List Sort) → length has ≡ 1 → (b : Sort) × (has ≡ b ∷ [])
          many_one [] e = absurd (omega (arith, e))
          many_one (b ∷ []) e = (b, refl)
          many_one (b ∷ d ∷ has) e = absurd (omega (arith, e))

      pub modulo_goes : Run a → Gives p F al xs form.taking_modulo has q → Whole form.taking_modulo m q g h
      modulo_goes run e = then_goes code notes counted.none (none_goes code notes) (λ u i.
          then_goes code notes beside (behind_none u i run) (λ v j.
          two_operands code notes m (many ∙ gives_many p F al xs e ∙ gives_told p F al xs e)
          (last_goes code notes (c.one o.Mod) (λ s. o.Mod) (λ s. refl) (turned has []) steady j q (λ y r s t.
          let two = many_two has (gives_many p F al xs e ∙ gives_told p F al xs e) in
          let z = here y r in
          subst (λ zs. AllFit (parent_of notes) zs e.taken → Asked code notes s.at (pt (over (turned zs []) y)) o.Mod) (sym two.1.1)
          (λ k. applied.modulo_passes p found code notes al xs y z.even t z.fails k e.takes e.value) e.operands))))
        where
          many_two : (has : List Sort) → length has ≡ 2 → (b : Sort) × ((d : Sort) × (has ≡ b ∷ d ∷ []))
          many_two [] e = absurd (omega (arith, e))
          many_two (b ∷ []) e = absurd (omega (arith, e))
          many_two (b ∷ d ∷ []) e = (b, (d, refl))
          many_two (b ∷ d ∷ k ∷ has) e = absurd (omega (arith, e))

      pub spawn_goes : (k : ℕ) → Run a → Gives p F al xs (form.spawning k) has q → Whole (form.spawning k) m q g h
      spawn_goes k run e = then_goes code notes counted.none (none_goes code notes) (λ u i.
          then_goes code notes beside (behind_none u i run) (λ v j.
          so_goes code notes _ (called_so k m has e.taken many (gives_many p F al xs e) (gives_told p F al xs e))
          (last_goes code notes (c.one (o.Spawn k)) (λ s. o.Spawn k) (λ s. refl) (turned has []) steady j q (λ y r s t. let z = here y r in
          calls.spawn_passes p found code notes declared fine al xs y z.even t z.fails z.waits k e.operands e.takes e.value))))

      -- the object lies beneath the operands
      pub own_call_goes : (k : ℕ) → Run (up a) → Gives p F al xs (form.calling_own k) has q → Whole (form.calling_own k) m q g h
      own_call_goes k run e =
          let this = gives_told p F al xs e in
          let d = this.class in
          then_goes code notes (starts (form.calling_own k) sc) (own_goes d this.is) (λ u i.
          then_goes code notes beside (run u (s.obj d ∷ []) (up_if d i) i) (λ v j.
          so_if code notes (turned has (s.obj d ∷ [])) steady j (is_fixed (this_found sc)) (own_so d this.is)
          (last_goes code notes (c.one (o.Method k m)) (λ s. o.Method k m) (λ s. refl) (turned has (s.obj d ∷ [])) steady j q
          (λ y r s t. let z = here y r in
          calls.own_call_passes p found code notes declared fine al xs y z.even t z.fails z.waits d k m this.is many e.operands
          e.takes e.value))))

      pub own_spawn_goes : (k : ℕ) → Run (up a) → Gives p F al xs (form.spawning_own k) has q → Whole (form.spawning_own k) m q g h
      own_spawn_goes k run e =
          let this = gives_told p F al xs e in
          let d = this.class in
          then_goes code notes (starts (form.spawning_own k) sc) (own_goes d this.is) (λ u i.
          then_goes code notes beside (run u (s.obj d ∷ []) (up_if d i) i) (λ v j.
          so_if code notes (turned has (s.obj d ∷ [])) steady j (is_fixed (this_found sc)) (own_so d this.is)
          (last_goes code notes (c.one (o.SpawnMethod k m)) (λ s. o.SpawnMethod k m) (λ s. refl) (turned has (s.obj d ∷ [])) steady j q
          (λ y r s t. let z = here y r in
          calls.own_spawn_passes p found code notes declared fine al xs y z.even t z.fails z.waits d k m this.is many e.operands
          e.takes e.value))))

      -- ---- calls of a member of an object

      module _ (qo : Sort) {v : Option State} (above : If v (IsOver code notes (turned has (qo ∷ [])) x)) where
        abbrev Ends : Form → Type 0
        Ends f = Going code notes w ts v (apply.finish f m true) (walks.finish f m true) (with_value q x) (λ z. Unit {0})

        pub method_ends : (k : ℕ) → Gives p F al xs (form.calling_method k) (qo ∷ has) q → Ends (form.calling_method k)
        method_ends k e = last_goes code notes (c.one (o.Method k m)) (λ s. o.Method k m) (λ s. refl) (turned has (qo ∷ [])) steady above q
            (λ y r s t. let z = here y r in
            calls.method_passes p found code notes declared fine al xs y z.even t z.fails z.waits k m many e.operands e.takes e.value)

        pub spawn_method_ends : (k : ℕ) → Gives p F al xs (form.spawning_method k) (qo ∷ has) q → Ends (form.spawning_method k)
        spawn_method_ends k e = last_goes code notes (c.one (o.SpawnMethod k m)) (λ s. o.SpawnMethod k m) (λ s. refl) (turned has (qo ∷ []))
            steady above q (λ y r s t. let z = here y r in
            calls.spawn_method_passes p found code notes declared fine al xs y z.even t z.fails z.waits k m many e.operands e.takes e.value)

        tops_are : (rest : List Sort) → turned rest [] ++ (qo ∷ []) ≡ turned rest (qo ∷ [])
        tops_are rest = turned_on rest [] (qo ∷ [])

        pub await_ends : (t : Bool) → Gives p F al xs (form.awaiting t) (qo ∷ has) q → Ends (form.awaiting t)
        await_ends t e = subst (λ k. Going code notes w ts v (apply.dropping k (c.one (apply.awaiting t))) (walks.dropping k n.last)
            (with_value q x) (λ z. Unit {0})) (turned_length has ∙ sym many)
            (drops_go code notes steady (turned has []) (qo ∷ [])
            (λ z i. subst (λ qs. IsOver code notes qs x z) (sym (tops_are has)) (above z i))
            (λ u i. last_goes code notes (c.one (apply.awaiting t)) (λ s. apply.awaiting t) (λ s. refl) (qo ∷ []) steady i q (λ y r s k.
            let z = here y r in
            applied.await_any_passes p found code notes al xs y z.even k z.waits t e.operands e.takes e.value)))

        -- a signal above its event: the first argument counts
        pub signal_ends : Gives p F al xs form.signalling (qo ∷ has) q → Ends form.signalling
        signal_ends e = by_operands has m many above e
          where
            by_operands : (has : List Sort) (m : ℕ) → m ≡ length has → If v (IsOver code notes (turned has (qo ∷ [])) x) →
                Gives p F al xs form.signalling (qo ∷ has) q →
                Going code notes w ts v (apply.signalling m) (walks.signalling m) (with_value q x) (λ z. Unit {0})
            by_operands [] zero k i e = then_goes code notes counted.just
                (step_goes code notes (c.one o.Unit) (λ s. o.Unit) (λ s. refl) (qo ∷ []) steady i (s.unit ∷ qo ∷ []) (gives 0 s.unit)
                (λ y j. gives_is s.unit (over (qo ∷ []) y))
                (λ y j z t. step.unit_asked code notes (over (qo ∷ []) y) (even_over y (here y j).even (qo ∷ [])) t
                (fits_itself (parent_of notes) s.unit)))
                (λ u j. last_goes code notes (c.one o.Signal) (λ s. o.Signal) (λ s. refl) (s.unit ∷ qo ∷ []) steady j q (λ y r z t.
                let g = here y r in
                applied.bare_signal_passes p found code notes al xs y g.even t g.waits e.operands e.takes e.value))
            by_operands [] (suc m) k i e = absurd (omega (arith, k))
            by_operands (b ∷ rest) zero k i e = absurd (omega (arith, k))
            by_operands (b ∷ rest) (suc m) k i e =
                let many_are : length (turned rest []) ≡ m = turned_length rest ∙ (omega (arith, k)) in
                subst (λ j. Going code notes w ts v (apply.dropping j (c.one o.Signal)) (walks.dropping j n.last) (with_value q x)
                (λ z. Unit {0})) many_are (drops_go code notes steady (turned rest []) (b ∷ qo ∷ [])
                (λ z j. subst (λ qs. IsOver code notes qs x z) (sym (turned_on rest [] (b ∷ qo ∷ []))) (i z j))
                (λ u j. last_goes code notes (c.one o.Signal) (λ s. o.Signal) (λ s. refl) (b ∷ qo ∷ []) steady j q (λ y r z t.
                let g = here y r in
                applied.signal_any_passes p found code notes al xs y g.even t g.waits e.operands e.takes e.value)))
