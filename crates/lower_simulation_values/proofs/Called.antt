-- Calls and indices, by what their callee stands for.
use Rattle.std.proofs.Common.{◌≡◌, ℕ, zero, suc, List, [], ◌∷◌, Option, Some, None, Bool, true, false, refl, sym, ap, subst, arith}
use Rattle.verse_base.specs.declared.places.Place.{Place}
use Rattle.verse_tree.specs.Tree.{Bytes, Tree, tree, Shape, Trees, no_trees, more_trees}
use Rattle.verse_tree.specs.Tree as t
use Rattle.verse_code.specs.declared.operations.Op.TheVariants as op
use Rattle.verse_value.specs.Val as v
use Rattle.verse_value.specs.Val.{Val, unit, falsity, truth, int, char, object, enum}
use Rattle.verse_meaning_state.specs.Effects.{signal_sent, event_of}
use Rattle.verse_meaning.specs.Programs.{trees_list, fun_at}
use Rattle.verse_meaning.specs.Residuals as form
use Rattle.verse_meaning.specs.Residuals.{Env, Form, Bound, args}
use Rattle.verse_meaning.specs.Outcomes.{World, Outcome, halted, jammed, wrong, valued, if_there, outside}
use Rattle.verse_meaning.specs.Forms.{look, this_name, constant_of, awaited, signal_told}
use Rattle.verse_meaning.specs.Evaluating as ev
use Rattle.verse_meaning.specs.Evaluating.{all_args, quotient, picked, literal_of, Callee, by_callee, callee_of}
use Rattle.verse_meaning.specs.Runs.{deeper}
use Rattle.verse_code_machine.specs.Tasks.{Step}
use Rattle.verse_code_machine.specs.Frames.{fits, free, only_where}
use Rattle.lower_code.specs.Applied.{finish, start, started, awaiting}
use Rattle.lower_code.specs.Pieces.{Spot, Maker, nothing, one, ◌then◌, stuck}
use Rattle.lower_code.specs.Scopes.{Scope as Names, Found, fixed, varies, absent, this_found, push_fixed, is_fixed}
use Rattle.lower_code.specs.declared.arounds.Around.{Around as Where}
use Rattle.lower_code.specs.Arounds.{up}
use Rattle.lower_code.specs.Lowering as low
use Rattle.lower_code.specs.Lowering.{piece, how_many, form_fits, takes_params}
use Rattle.lower_simulation.proofs.Steps.{over}
use Rattle.lower_simulation.proofs.Claims.{Way, Setting, Ctx, Around, at, on, Tasks, Target}
use Rattle.lower_simulation.proofs.Going.{trans}
use Rattle.lower_simulation.proofs.Locals.{in_holds, Looked, looked}
use Rattle.lower_simulation.proofs.Standing.{Stands, then_stand, op_stands}
use Rattle.lower_simulation.proofs.Leading.{LeadsTo, does_leads, open_leads, there_leads, is_leads, told_plain_leads, Calmly}
use Rattle.lower_simulation.proofs.Forms.{on_one, op_leads, end_leads, EvLeads, All_lead, IsPlain, args_leads, one_finish}
use Rattle.lower_simulation_values.proofs.Names.{stuck_leads}
use Rattle.lower_simulation_values.proofs.Operands.{to_end}
use Rattle.lower_simulation_values.proofs.Tables.{Tables, CallsLead, AwaitsLead}
use Rattle.lower_simulation_values.proofs.Applied.{Leads, Applied, Done, applied_leads, first_leads, dropping_done}
use Rattle.lower_simulation_values.proofs.Callees.{Sort, a_function, own_method, prints, floors, ceils, takes_modulo, a_method, awaits}
use Rattle.lower_simulation_values.proofs.Callees.{signals}
use Rattle.lower_simulation_values.proofs.Callees.{a_value, sort_of}
use Rattle.lower_simulation_values.proofs.Calls.{calling_applied, method_applied, own_applied, own_wrong, printing_applied, modulo_applied}
use Rattle.lower_simulation_values.proofs.Calls.{flooring_applied, ceiling_applied, indexing_applied, picking_done}

module _ (z : Setting) where
  -- ---- where no failure context is open

  pub outside_leads : {j n : ℕ} {c : Ctx} {o : Around} {b : form.Scopes} {f : Tasks} {into : Target} (w : Bool) (y : World)
      (go : World → Outcome)
      (q : Step) → free c.handlers c.life.noted c.below ≡ w →
      (free c.handlers c.life.noted c.below ≡ true → LeadsTo z j n c o b f q into (go y)) →
      LeadsTo z j n c o b f (only_where (free c.handlers c.life.noted c.below) y.state q) into (outside w y go)
  unfolding outside
  outside_leads {c = c} true y go q fw h = open_leads z y.state fw (h fw)
  outside_leads {j} {n} {c} {o} {b} {f} {into} false y go q fw h =
      subst (λ t. LeadsTo z j n c o b f (only_where t y.state q) into (halted (jammed y.state))) (sym fw) (record { go = λ g k. over _ k })

  -- what is stuck, where the meaning is wrong too
  pub outside_stuck : {j n : ℕ} {c : Ctx} {o : Around} {y : World} {ls st : List Val} {size : ℕ} {out : Way} {s e : Spot} {into : Target}
      (w : Bool)
      (go : World → Outcome) → go y ≡ halted (wrong y.state) → Stands z (fits c.handlers) size out s (stuck s) e →
      LeadsTo z j n c o y.behind y.tasks (at c o y.state ls st s.at) into (outside w y go)
  unfolding outside
  outside_stuck true go h x = is_leads z h (stuck_leads z x)
  outside_stuck false go h x = does_leads z (op_stands z x).is (record { go = λ g h. over _ h })

module _ (z : Setting) (differ : ℕ → ℕ → Bool) (top : ℕ) where
  -- the object of a member
  abbrev pub Member_part : Shape → Type 0
  Member_part (t.Shape.member b x) = EvLeads z differ top b
  Member_part s = Unit {0}

  abbrev pub Member_lead : Tree → Type 0
  Member_lead (tree n pl s) = Member_part s

  -- both operands of a quotient, which is the first argument
  abbrev pub Quotient_part : Shape → Type 0
  Quotient_part (t.Shape.chained x b c) = EvLeads z differ top b × EvLeads z differ top c
  Quotient_part s = Unit {0}

  abbrev pub Quotient_tree : Tree → Type 0
  Quotient_tree (tree n pl s) = Quotient_part s

  abbrev pub Quotient_lead : Trees → Type 0
  Quotient_lead no_trees = Unit {0}
  Quotient_lead (more_trees b ts) = Quotient_tree b

  -- ---- forms without an operand for the callee

  pub alone_leads : (f : Form) → IsPlain z differ top f → (ts : Trees) → All_lead z differ top ts → (fit : Bool) →
      ((c : Ctx) (st : List Val) → Applied z differ top f [] (how_many ts) fit c st st) →
      Leads z differ top (λ ss a. nothing then low.args z.program differ ts ss a then finish f (how_many ts) fit)
      (λ w M e y. all_args z.program (deeper z.program M) ts f [] w e y)
  alone_leads f pf ts hs fit ha ss a s e out w M j n c o y ls st i sc fw lt lM ab g =
      let r = then_stand z s e nothing (low.args z.program differ ts ss a then finish f (how_many ts) fit) i in
      applied_leads z differ top f pf ts hs fit [] ss a s e out w M j n c o y ls st st (ha c st) r.1 sc fw lt lM ab g

  -- a method of `Self`, which lies beneath the arguments, where it is
  pub own_leads : (f : Form) → IsPlain z differ top f → (ts : Trees) → All_lead z differ top ts →
      ((c : Ctx) (obj : Val) (st : List Val) → look this_name c.env ≡ Some (form.constant obj) →
      Applied z differ top f [] (how_many ts) true c (obj ∷ st) st) →
      ((c : Ctx) (below st : List Val) → constant_of (look this_name c.env) ≡ None →
      Applied z differ top f [] (how_many ts) false c below st) → Leads z differ top
      (λ ss a. push_fixed (this_found ss) then low.args z.program differ ts ss (up a) then
      finish f (how_many ts) (is_fixed (this_found ss))) (λ w M e y. all_args z.program (deeper z.program M) ts f [] w e y)
  own_leads f pf ts hs there none ss a s e out w M j n c o y ls st i sc fw lt lM ab g =
      by (this_found ss) (looked this_name c.held ss c.env sc.fits) i
    where
      rest : Bool → Maker
      rest t = low.args z.program differ ts ss (up a) then finish f (how_many ts) t

      without : Stands z (fits c.handlers) c.size out s ((one op.Unit then rest false) s) e → constant_of (look this_name c.env) ≡ None →
          LeadsTo z j n c o y.behind y.tasks (at c o y.state ls st s.at) (on e.at st)
          (all_args z.program (deeper z.program M) ts f [] w c.env y)
      without x h =
          let r = then_stand z s e (one op.Unit) (rest false) x in
          does_leads z (op_stands z r.0).is (open_leads z _ (op_stands z r.0).fit
          (applied_leads z differ top f pf ts hs false [] ss (up a) _ e out w M j n c o y ls (unit ∷ st) st (none c (unit ∷ st) st h) r.1
          (on_one sc) fw lt lM ab g))

      by : (r : Found) → Looked r (look this_name c.env) c.held →
          Stands z (fits c.handlers) c.size out s ((push_fixed r then rest (is_fixed r)) s) e → LeadsTo z j n c o y.behind y.tasks
          (at c o y.state ls st s.at) (on e.at st) (all_args z.program (deeper z.program M) ts f [] w c.env y)
      by (fixed l) k x =
          let r = then_stand z s e (one (op.Get l)) (rest true) x in
          does_leads z (op_stands z r.0).is (there_leads z y.state _ (in_holds l k.0 ls k.2 g.holds) (open_leads z _ (op_stands z r.0).fit
          (applied_leads z differ top f pf ts hs true [] ss (up a) _ e out w M j n c o y ls (k.0 ∷ st) st (there c k.0 st k.1) r.1
          (on_one sc)
          fw lt lM ab g)))
      by (varies l) k x = without x (ap constant_of k.1)
      by absent k x = without x (ap constant_of k)

  -- ---- events and tasks

  signal_calm : (e : Option ℕ) (u : Val) (y : World) → Calmly z (signal_sent e u y.state) y.state
  signal_calm None u y = tt
  signal_calm (Some e) u y = refl

  pub signalling_applied : (n : ℕ) (c : Ctx) (a : Val) (st : List Val) → Applied z differ top form.signalling (a ∷ []) n true c (a ∷ st) st
  signalling_applied zero c a st [] q = λ s e out w M j m o y ls x fw lt lM g.
      let r = then_stand z s e (one op.Unit) (one op.Signal) x in
      does_leads z (op_stands z r.0).is (open_leads z _ (op_stands z r.0).fit (op_leads z r.1 (λ k.
      outside_leads z w y (λ y. signal_told z.program (deeper z.program M) [] a c.env y) _ fw (λ fr.
      told_plain_leads z (signal_sent (event_of a y.state) unit y.state) c.env k.fit (signal_calm (event_of a y.state) unit y) g))))
  signalling_applied (suc n) c a st (u ∷ ws) q =
      dropping_done z differ top form.signalling (a ∷ u ∷ ws) (one op.Signal) n ws (omega (arith, q)) c (u ∷ a ∷ st) st
      (λ s e out w M j m o y ls x fw lt lM g. op_leads z x (λ k.
      outside_leads z w y (λ y. signal_told z.program (deeper z.program M) (u ∷ ws) a c.env y) _ fw (λ fr.
      told_plain_leads z (signal_sent (event_of a y.state) u y.state) c.env k.fit (signal_calm (event_of a y.state) u y) g)))
  signalling_applied n c a st ws q = absurd (omega (arith, q))

  await_done : AwaitsLead z top → (is_event : Bool) (ws : List Val) (c : Ctx) (a : Val) (st : List Val) →
      Done z differ top (form.awaiting is_event) (a ∷ ws) (one (awaiting is_event)) c (a ∷ st) st
  unfolding if_there
  await_done claim false ws c (v.task entry) st s e out w M j m o y ls x fw lt lM g =
      end_leads z x.ends (claim.of_task entry w M j m c o y ls st s.at (record { is = (op_stands z x).is }) fw lt lM g)
  await_done claim true ws c (v.event entry) st s e out w M j m o y ls x fw lt lM g =
      end_leads z x.ends (claim.of_event entry w M j m c o y ls st s.at (record { is = (op_stands z x).is }) fw lt lM g)
  await_done claim false ws c u st s e out w M j m o y ls x fw lt lM g = does_leads z (op_stands z x).is
      (outside_leads z w y (λ y. awaited z.program (deeper z.program M) false u c.env y) _ fw (λ fr. record { go = λ g h. over _ h }))
  await_done claim true ws c u st s e out w M j m o y ls x fw lt lM g = does_leads z (op_stands z x).is
      (outside_leads z w y (λ y. awaited z.program (deeper z.program M) true u c.env y) _ fw (λ fr. record { go = λ g h. over _ h }))

  pub awaiting_applied : AwaitsLead z top → (is_event : Bool) (n : ℕ) (c : Ctx) (a : Val) (st : List Val) →
      Applied z differ top (form.awaiting is_event) (a ∷ []) n true c (a ∷ st) st
  awaiting_applied claim is_event n c a st ws q =
      dropping_done z differ top (form.awaiting is_event) (a ∷ ws) (one (awaiting is_event)) n ws q c (a ∷ st) st
      (await_done claim is_event ws c a st)

  -- ---- the operands of a quotient, which are no argument of their own

  quotient_leads : (f : Form) → IsPlain z differ top f → ((c : Ctx) (st : List Val) → Applied z differ top f [] 2 true c st st) →
      (ts : Trees) → Quotient_lead ts → Leads z differ top (λ ss a. low.quotient z.program differ ts ss a then finish f 2 true)
      (λ w M e y. quotient z.program (deeper z.program M) ts f w e y)
  quotient_leads f pf ha no_trees h ss a s e out w M j n c o y ls st i sc fw lt lM ab g = stuck_leads z
      (then_stand z s e stuck (finish f 2 true) i).0
  quotient_leads f pf ha (more_trees (tree m pl (t.Shape.chained x b u)) ts) h ss a s e out w M j n c o y ls st i sc fw lt lM ab g =
      let r = then_stand z s e (piece z.program differ b ss a then piece z.program differ u ss (up a)) (finish f 2 true) i in
      let r2 = then_stand z s _ (piece z.program differ b ss a) (piece z.program differ u ss (up a)) r.0 in
      args_leads z differ top (more_trees b (more_trees u no_trees)) (h.0, (h.1, tt)) f pf ss a s _ out w M j n c o y ls st [] (on e.at st)
      (r2.0, (to_end z r2.1, r2.1.ends)) sc fw lt lM ab g (λ ws q w M i m fw le lM o y ls g. ha c st ws q _ e out w M i m o y ls r.1 fw
      (trans le lt) lM g)
  quotient_leads f pf ha (more_trees (tree m pl x) ts) h ss a s e out w M j n c o y ls st i sc fw lt lM ab g = stuck_leads z
      (then_stand z s e stuck (finish f 2 true) i).0

  -- ---- by what the callee stands for

  -- the operations of a form on the object of a member
  abbrev Object_applied : Form → Trees → Type 0
  Object_applied f ts = (c : Ctx) (a : Val) (st : List Val) → Applied z differ top f (a ∷ []) (how_many ts) true c (a ∷ st) st

  callee_leads : Tables z → CallsLead z top → AwaitsLead z top → (whole : Form) (pl : Place) (b : Tree) (ts : Trees)
      (value_code : Form → Names → Where → Maker) (value_run : Form → Bool → ℕ → Env → World → Outcome) →
      Leads z differ top (value_code whole) (value_run whole) → Member_lead b → All_lead z differ top ts → Quotient_lead ts →
      (q : Callee) → Sort z whole pl b q → Leads z differ top (λ ss a. low.by_callee q
      (λ f. start f ss then low.args z.program differ ts ss (started f a) then
      finish f (how_many ts) (form_fits z.program differ f (how_many ts) ss))
      (λ f. low.inner z.program differ b ss a then low.args z.program differ ts ss (up a) then finish f (how_many ts) true)
      (λ f. value_code f ss a) (λ f. low.quotient z.program differ ts ss a then finish f 2 true))
      (λ w M e y. by_callee z.program (deeper z.program M) q y (λ f y. all_args z.program (deeper z.program M) ts f [] w e y)
      (λ f y. valued (ev.inner z.program (deeper z.program M) b w e y) (λ r. args e f [] r (trees_list ts))
      (λ u y. all_args z.program (deeper z.program M) ts f (u ∷ []) w e y))
      (λ f y. value_run f w M e y) (λ f y. quotient z.program (deeper z.program M) ts f w e y))
  unfolding by_callee low.by_callee
  callee_leads tables calls aw whole pl b ts vc vr hv hm hs hq q (a_function f is) =
      alone_leads (form.calling f) (λ l vs e w. refl) ts hs (takes_params z.program differ (fun_at z.program f) (how_many ts))
      (λ c st. calling_applied z differ top tables calls f is (how_many ts) c st)
  callee_leads tables calls aw whole pl b ts vc vr hv hm hs hq q (own_method m) = own_leads (form.calling_own m)
      (λ l vs e w. refl) ts hs (λ c obj st h. own_applied z differ top tables calls m (how_many ts) c obj st h)
      (λ c below st h. own_wrong z differ top m (how_many ts) c below st h)
  callee_leads tables calls aw whole pl b ts vc vr hv hm hs hq q prints = alone_leads (form.printing pl) (λ l vs e w. refl) ts hs true
      (λ c st. printing_applied z differ top pl (how_many ts) c st)
  callee_leads tables calls aw whole pl b ts vc vr hv hm hs hq q takes_modulo = alone_leads form.taking_modulo
      (λ l vs e w. refl) ts hs true
      (λ c st. modulo_applied z differ top (how_many ts) c st)
  callee_leads tables calls aw whole pl b ts vc vr hv hm hs hq q floors = quotient_leads (form.flooring pl) (λ l vs e w. refl)
      (λ c st. flooring_applied z differ top pl c st) ts hq
  callee_leads tables calls aw whole pl b ts vc vr hv hm hs hq q ceils = quotient_leads (form.ceiling pl) (λ l vs e w. refl)
      (λ c st. ceiling_applied z differ top pl c st) ts hq
  callee_leads tables calls aw whole pl b ts vc vr hv hm hs hq q (a_method {b = x} m) =
      first_leads z differ top (form.calling_method m) (λ l vs e w. refl) x hm ts hs
      (λ c a st. method_applied z differ top tables calls m (how_many ts) c a st)
  callee_leads tables calls aw whole pl b ts vc vr hv hm hs hq q (awaits {b = x} is_event) =
      first_leads z differ top (form.awaiting is_event) (λ l vs e w. refl) x hm ts hs
      (λ c a st. awaiting_applied aw is_event (how_many ts) c a st)
  callee_leads tables calls aw whole pl b ts vc vr hv hm hs hq q (signals {b = x}) =
      first_leads z differ top form.signalling (λ l vs e w. refl) x hm ts hs (λ c a st. signalling_applied (how_many ts) c a st)
  callee_leads tables calls aw whole pl b ts vc vr hv hm hs hq q a_value = hv

  picking_leads : (k : Option ℕ) (b : Tree) → EvLeads z differ top b →
      Leads z differ top (λ ss a. piece z.program differ b ss a then finish (form.picking k) 0 true)
      (λ w M e y. all_args z.program (deeper z.program M) (more_trees b no_trees) (form.picking k) [] w e y)
  picking_leads k b hb ss a s e out w M j n c o y ls st i sc fw lt lM ab g =
      let r = then_stand z s e (piece z.program differ b ss a) (finish (form.picking k) 0 true) i in
      args_leads z differ top (more_trees b no_trees) (hb, tt) (form.picking k) (λ l vs e w. refl) ss a s _ out w M j n c o y ls st []
      (on e.at st) (r.0, refl) sc fw lt lM ab g
      (one_finish z differ top _ _ (λ u w M i m fw le lM o y ls g.
      picking_done z differ top k c u st _ e out w M i m o y ls r.1 fw (trans le lt) lM g))

  picked_leads : (ts : Trees) (b : Tree) → EvLeads z differ top b →
      Leads z differ top (λ ss a. piece z.program differ b ss a then finish (picked ts) 0 true)
      (λ w M e y. all_args z.program (deeper z.program M) (more_trees b no_trees) (picked ts) [] w e y)
  picked_leads no_trees b hb = picking_leads None b hb
  picked_leads (more_trees x no_trees) b hb = picking_leads (literal_of x) b hb
  picked_leads (more_trees x (more_trees u ts)) b hb = picking_leads None b hb

  pub call_leads : Tables z → CallsLead z top → AwaitsLead z top → (n : ℕ) (pl : Place) (b : Tree) (ts : Trees) → EvLeads z differ top b →
      Member_lead b → All_lead z differ top ts → Quotient_lead ts → EvLeads z differ top (tree n pl (t.Shape.call b ts))
  call_leads tables calls aw n pl b ts hb hm hs hq = callee_leads tables calls aw (picked ts) pl b ts
      (λ f ss a. piece z.program differ b ss a then finish f 0 true)
      (λ f w M e y. all_args z.program (deeper z.program M) (more_trees b no_trees) f [] w e y) (picked_leads ts b hb) hm hs hq
      (callee_of z.program b (picked ts) pl) (sort_of z (picked ts) pl b)

  pub index_leads : Tables z → CallsLead z top → AwaitsLead z top → (n : ℕ) (pl : Place) (b : Tree) (ts : Trees) → EvLeads z differ top b →
      Member_lead b → All_lead z differ top ts → Quotient_lead ts → EvLeads z differ top (tree n pl (t.Shape.index b ts))
  index_leads tables calls aw n pl b ts hb hm hs hq = callee_leads tables calls aw form.indexing pl b ts
      (λ f ss a. piece z.program differ b ss a then low.args z.program differ ts ss (up a) then finish f (how_many ts) true)
      (λ f w M e y. all_args z.program (deeper z.program M) (more_trees b ts) f [] w e y)
      (first_leads z differ top form.indexing (λ l vs e w. refl) b hb ts hs
      (λ c a st. indexing_applied z differ top (how_many ts) c a st)) hm
      hs hq (callee_of z.program b form.indexing pl) (sort_of z form.indexing pl b)
