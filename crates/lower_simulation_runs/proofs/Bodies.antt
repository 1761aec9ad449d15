-- Bodies, calls, spawned calls and defaults of a program, by the bound of the steps.
use Rattle.std.proofs.Common.{◌≡◌, ℕ, ◌≤◌, ◌<◌, List, [], length, Option, Some, None, Bool, refl, sym, subst, arith}
use Rattle.verse_tree.specs.Tree.{Tree}
use Rattle.verse_tree.specs.ItemTree.{FunTree}
use Rattle.verse_code.specs.declared.codes.Func.{Func}
use Rattle.verse_code.specs.declared.operations.Op.TheVariants as op
use Rattle.verse_value.specs.Val.{Val}
use Rattle.verse_meaning.specs.Programs.{fields_of}
use Rattle.verse_meaning.specs.Residuals.{Env, none}
use Rattle.verse_meaning.specs.Outcomes.{world}
use Rattle.verse_meaning.specs.Runs.{with_this}
use Rattle.verse_code_machine.specs.Frames.{locals_of}
use Rattle.lower_code.specs.Pieces.{past, one}
use Rattle.lower_code.specs.Scopes.{Scope as Names}
use Rattle.lower_code.specs.Arounds.{fresh}
use Rattle.lower_code.specs.Lowering.{piece}
use Rattle.lower_simulation.proofs.Claims.{return_now, at, Setting, Ends, Held, in_frame}
use Rattle.lower_simulation.proofs.Going.{le_self}
use Rattle.lower_simulation.proofs.Going as going
use Rattle.lower_simulation.proofs.Contexts.{frame_static}
use Rattle.lower_simulation.proofs.Standing.{then_stand}
use Rattle.lower_simulation.proofs.Forms.{EvLeads}
use Rattle.lower_simulation_values.proofs.Tables.{with_object, CallsLead, SpawnsLead, Default_leads, DefaultsLead}
use Rattle.lower_simulation_runs.proofs.Entering.{BodyLeads, called_leads, started_leads, default_leads, by_bound}
use Rattle.lower_simulation_runs.proofs.Binding.{Bound, object_scope, call_bound, can_bind, params_many, locals_many}
use Rattle.lower_simulation_runs.proofs.Standings.{Stood}
use Rattle.lower_simulation_runs.proofs.Placing.{AllStand, names_of, every_map}

module _ (z : Setting) (differ : ℕ → ℕ → Bool) where
  -- the body of a function, from where its code stands
  pub body_leads : (top : ℕ) (x : Tree) (fc : Func) (ss : Names) (e : Env) (vs : List Val) →
      ((t : ℕ) → t ≤ top → EvLeads z differ t x) → Stood z differ fc x ss → Bound ss e (locals_of fc vs) → length vs ≡ fc.params →
      BodyLeads z top x fc e vs
  body_leads top x fc ss e vs hx st b hn =
      let f = piece z.program differ x ss fresh in
      let s = st.begins in
      let r = then_stand z s st.ends f (one op.Return) st.stands in
      let m = past s (f s) in
      let frame : Held = record { held = b.held; also = []; size = fc.locals } in
      record {
        frame = frame;
        end = m.at;
        returns = λ k. return_now le_self (record { is = r.1.ops.0 });
        leads = λ j M w who bl o u tasks g ut uM fw fi h.
            subst (λ a. Ends z (at (in_frame e frame who u.clock.left bl) o u (locals_of fc vs) [] a) g) (sym st.entry)
            ((hx u.clock.left ut ss fresh s m st.way w M j u.clock.left (in_frame e frame who u.clock.left bl) o (world u none tasks)
            (locals_of fc vs) [] r.0 (frame_static st.way e frame who u.clock.left bl b.fits b.low tt) fw le_self uM refl
            (going.fresh frame (b.holds, (tt, locals_many fc vs hn st.room)) fi)).go g h);
      }

  -- a form leads, where calls do
  pub record Claims (top : ℕ) : Type 0 where
    pub calls : CallsLead z top
    pub spawns : SpawnsLead z top
    pub defaults : DefaultsLead z top

  -- what is shown of all trees that fit, form by form
  abbrev pub FormsLead : (Tree → Type 0) → Type 0
  FormsLead Fit = (top : ℕ) → Claims top → (x : Tree) → Fit x → EvLeads z differ top x

  arguments_many : (fn : FunTree) (this : Option Val) (vs : List Val) (fc : Func) → fc.params ≡ length (names_of fn this) →
      length vs ≡ length fn.params → length (with_object this vs) ≡ fc.params
  arguments_many fn None vs fc h n = let m = params_many fn.params [] in omega (arith, h, n, m)
  arguments_many fn (Some v) vs fc h n = let m = params_many fn.params (object_scope (Some v)) in omega (arith, h, n, m)

  module _ (Fit : Tree → Type 0) (forms : FormsLead Fit) (all : AllStand z differ Fit) where
    -- at a bound, from all that are less
    module _ (top : ℕ) (below : (t : ℕ) → t < top → Claims t) where
      within : (x : Tree) → Fit x → (t : ℕ) → t < top → (u : ℕ) → u ≤ t → EvLeads z differ u x
      within x fit t lt u le = forms u (below u (omega (arith, lt, le))) x fit

      calls : CallsLead z top
      calls f this fn fc vs is h k n w M j i c o y ls st q fw lt lM fq g =
          let s = all.calls f this fn fc is h k in
          let e = can_bind fn.params vs (with_this this) n in
          called_leads z f this fn vs e.0 h e.1 top fc (with_object this vs)
          (λ t lt. body_leads t fn.body fc (names_of fn this) e.0 (with_object this vs) (within fn.body s.1 t lt) s.0
          (call_bound this fn.params vs e.0 fc e.1) (arguments_many fn this vs fc s.0.params n)) w M j i c o y ls st q fw lt lM g

      spawns : SpawnsLead z top
      spawns f this fn fc vs is h k n M j i c o y ls st q fr lt lM fq g =
          let s = all.calls f this fn fc is h k in
          let e = can_bind fn.params vs (with_this this) n in
          started_leads z f this fn vs e.0 h e.1 top fc (with_object this vs)
          (λ t lt. body_leads t fn.body fc (names_of fn this) e.0 (with_object this vs) (within fn.body s.1 t lt) s.0
          (call_bound this fn.params vs e.0 fc e.1) (arguments_many fn this vs fc s.0.params n)) M j i c o y ls st q fr lt lM g

      defaults : DefaultsLead z top
      defaults k is = every_map _ (Default_leads z top) (fields_of z.program k)
          (λ f s d fc h e w M j i c o y ls st q fw lt lM fq g. let b = s d fc h e in
          default_leads z top d fc [] [] (λ t lt. body_leads t d fc [] [] [] (within d b.1 t lt) b.0
          (record { held = []; fits = tt; low = tt; holds = tt }) (sym b.0.params)) refl M w fw lt lM g) (all.defaults k is)

    pub claims : (top : ℕ) → Claims top
    claims = by_bound Claims (λ top below. record { calls = calls top below; spawns = spawns top below; defaults = defaults top below })
