-- `if`, `option`, `logic`.
use Rattle.std.proofs.Common.{◌≡◌, ℕ, suc, ◌≤◌, List, [], ◌∷◌, length, Bool, false, refl, arith}
use Rattle.verse_base.specs.declared.places.Place.{Place}
use Rattle.verse_tree.specs.Tree.{Tree, tree, Trees, no_trees, more_trees}
use Rattle.verse_tree.specs.Tree as t
use Rattle.verse_code.specs.declared.operations.Op.TheVariants as op
use Rattle.verse_value.specs.Val.{Val, unit, falsity, truth}
use Rattle.verse_value.specs.Operations.{option_of}
use Rattle.verse_meaning_state.specs.State.{State}
use Rattle.verse_meaning_state.specs.Effects.{still}
use Rattle.verse_meaning.specs.Residuals.{Env}
use Rattle.verse_meaning.specs.Outcomes.{World, with_state, Outcome, value, told, attempted}
use Rattle.verse_meaning.specs.Evaluating.{ev, statements, statement_of}
use Rattle.verse_meaning.specs.Runs.{deeper}
use Rattle.verse_code_machine.specs.Frames.{fits, free}
use Rattle.lower_code.specs.Pieces.{Spot, Maker, next, past, one, placed, either, ◌then◌}
use Rattle.lower_code.specs.Scopes.{Scope as Names}
use Rattle.lower_code.specs.declared.arounds.Around.{Around as Where}
use Rattle.lower_code.specs.Arounds.{enclosed}
use Rattle.lower_code.specs.Lowering as low
use Rattle.lower_code.specs.Lowering.{piece, scope_stated, scope_behind}
use Rattle.lower_code.proofs.Scopes.{stated_longer}
use Rattle.lower_simulation.proofs.Claims.{Way, Setting, Ctx, Around, at, Good, on, Shows, Above}
use Rattle.lower_simulation.proofs.Going.{trans, le_self}
use Rattle.lower_simulation.proofs.Leading.{LeadsTo, does_leads, open_leads, value_here, told_leads, still_calm}
use Rattle.lower_simulation.proofs.Standing.{Stands, op_stands, narrow, then_stand, placed_stand, widened, either_stand}
use Rattle.lower_simulation.proofs.Widening.{holding_all, holding_leads, jump_leads}
use Rattle.lower_simulation.proofs.Forms.{Static, op_leads, EvLeads}
use Rattle.lower_simulation.proofs.Contexts.{trying, trying_static}
use Rattle.lower_simulation_blocks.proofs.Failing.{try_leads, commit_leads}
use Rattle.lower_simulation_blocks.proofs.Definitions.{shown_static, shown_good}
use Rattle.lower_simulation_blocks.proofs.Blocks.{ConditionsLead}

longer : (cs : Trees) (ss : Names) → length ss ≤ length (scope_behind cs ss)
longer no_trees ss = le_self
longer (more_trees a cs) ss = trans (stated_longer (statement_of a) ss) (longer cs (scope_stated (statement_of a) ss))

module _ (z : Setting) (differ : ℕ → ℕ → Bool) (top : ℕ) where
  -- Try L; conditions; what follows them in the failure context, up to its Commit and behind it; Jump M; L: the other; M is behind it
  context_leads : (cs : Trees) → ConditionsLead z differ top cs → (f2 u : Maker) (yes_do : Env → Val → World → Outcome)
      (other : World → Outcome) (ss : Names) (a : Where) (s e : Spot) (out : Way) (M j n : ℕ) (c : Ctx) (o : Around) (y : World)
      (ls st : List Val) →
      Stands z (fits c.handlers) c.size out s (either op.Try (low.statements z.program differ cs ss (enclosed a) then f2) u s) e →
      Static top c ss out a → n ≤ top → n ≤ M → Good n c.who.path o c.held c.also c.size y.state ls →
      ((m : ℕ) → m ≤ n → (i l : ℕ) (s e1 : Spot) (env : Env) (v : Val) (w : State) (ls : List Val) →
      Stands z (narrow (fits c.handlers) i l) c.size out s (f2 s) e1 → Good m c.who.path o c.held c.also c.size w ls →
      Shows (scope_behind cs ss) c.held env ls →
      LeadsTo z j m c o y.behind y.tasks (at (trying c y.state i l st) o w ls (v ∷ []) s.at) (on e1.at st)
      (yes_do env v (with_state y w))) →
      ((s : Spot) (v : State) (ls : List Val) → Stands z (fits c.handlers) c.size out s (u s) e →
      Good n c.who.path o c.held c.also c.size v ls →
      LeadsTo z j n c o y.behind y.tasks (at c o v ls st s.at) (on e.at st) (other (with_state y v))) →
      LeadsTo z j n c o y.behind y.tasks (at c o y.state ls st s.at) (on e.at st)
      (attempted (statements z.program (deeper z.program M) cs false c.env unit y) y yes_do other)
  context_leads cs hc f2 u yes_do other ss a s e out M j n c o y ls st i sc lt lM g go rest =
      let f1 : Maker = low.statements z.program differ cs ss (enclosed a) in
      let f : Maker = f1 then f2 in
      let i1 = either_stand z s e op.Try f u i in
      let m : Spot = past (next s) (f (next s)) in
      let r = then_stand z (next s) m f1 f2 i1.first in
      let v0 = i1.order.0 in
      let v1 = i1.order.1 in
      let l : ℕ = suc m.at in
      try_leads z {c = c} {into = on e.at st} s.at l y _ _ _ i1.begins (i1.first.fit (suc s.at) le_self v1)
      (i1.wide l (omega (arith, v1)) v0)
      (hc ss (enclosed a) (next s) _ out false M j n (trying c y.state s.at l st) o y ls [] r.0
      (trying_static y.state s.at l st sc) refl lt
      lM refl g)
      (λ k le env x w ls g bs. jump_leads z c m.at e.at st _ i1.jump (i1.wide e.at (omega (arith, v0, v1)) le_self)
      (go k le s.at l _ m env x w ls r.1 g bs))
      (λ x ls g. rest _ x ls i1.rest g)

  -- the part that is taken where the conditions hold, and the other
  choice_leads : (cs : Trees) → ConditionsLead z differ top cs → (b : Tree) → EvLeads z differ top b → (u : Maker)
      (other : World → Outcome) (ss : Names) (a : Where) (s e : Spot) (out : Way) (w : Bool) (M j n : ℕ) (c : Ctx) (o : Around) (y : World)
      (ls st : List Val) →
      Stands z (fits c.handlers) c.size out s
      (either op.Try (low.statements z.program differ cs ss (enclosed a) then one op.Drop then one op.Commit then
      piece z.program differ b (scope_behind cs ss) a) u s) e →
      Static top c ss out a → free c.handlers c.life.noted c.below ≡ w → n ≤ top → n ≤ M → Above a.height st c.base →
      Good n c.who.path o c.held c.also c.size y.state ls →
      ((s : Spot) (v : State) (ls : List Val) → Stands z (fits c.handlers) c.size out s (u s) e →
      Good n c.who.path o c.held c.also c.size v ls →
      LeadsTo z j n c o y.behind y.tasks (at c o v ls st s.at) (on e.at st) (other (with_state y v))) →
      LeadsTo z j n c o y.behind y.tasks (at c o y.state ls st s.at) (on e.at st)
      (attempted (statements z.program (deeper z.program M) cs false c.env unit y) y
      (λ e1 v y. ev z.program (deeper z.program M) b w e1 y) other)
  choice_leads cs hc b hb u other ss a s e out w M j n c o y ls st i sc fw lt lM ab g rest =
      let us : Names = scope_behind cs ss in
      let body : Maker = piece z.program differ b us a in
      context_leads cs hc (one op.Drop then one op.Commit then body) u
      (λ e1 v y. ev z.program (deeper z.program M) b w e1 y) other ss a s e
      out M j n c o y ls st i sc lt lM g
      (λ m le i l s e1 env v w1 ls x g bs.
      let r = then_stand z s e1 (one op.Drop) (one op.Commit then body) x in
      let r2 = then_stand z (next s) e1 (one op.Commit) body r.1 in
      let drop = op_stands z r.0 in
      does_leads z drop.is (open_leads z _ drop.fit
      (commit_leads z y.state i l (op_stands z r2.0).is (op_stands z (widened z i l r2.0)).fit
      (holding_leads z c env bs.more [] _
      (hb us a (next (next s)) e1 out w M j m (holding_all c env bs.more []) o (with_state y w1) ls st (widened z i l r2.1)
      (shown_static (longer cs ss) sc bs) fw (trans le lt) (trans le lM) ab
      (shown_good c bs g))))))
      rest

  pub if_else_leads : (n : ℕ) (pl : Place) (cs : Trees) (b u : Tree) → ConditionsLead z differ top cs → EvLeads z differ top b →
      EvLeads z differ top u → EvLeads z differ top (tree n pl (t.Shape.if_else cs b u))
  if_else_leads n pl cs b u hc hb hu ss a s e out w M j m c o y ls st i sc fw lt lM ab g =
      choice_leads cs hc b hb (piece z.program differ u ss a) (λ y. ev z.program (deeper z.program M) u w c.env y) ss a s e out w M j m c
      o y ls st i sc fw lt lM ab g
      (λ s v ls i g. hu ss a s e out w M j m c o (with_state y v) ls st i sc fw lt lM ab g)

  pub if_alone_leads : (n : ℕ) (pl : Place) (cs : Trees) (b : Tree) → ConditionsLead z differ top cs → EvLeads z differ top b →
      EvLeads z differ top (tree n pl (t.Shape.if_alone cs b))
  if_alone_leads n pl cs b hc hb ss a s e out w M j m c o y ls st i sc fw lt lM ab g =
      choice_leads cs hc b hb (one op.Unit) (λ y. value c.env unit y) ss a s e out w M j m c o y ls st i sc fw lt lM ab g
      (λ s v ls i g. op_leads z i (λ h. open_leads z _ h.fit (value_here z g)))

  pub logic_leads : (n : ℕ) (pl : Place) (cs : Trees) → ConditionsLead z differ top cs →
      EvLeads z differ top (tree n pl (t.Shape.logic cs))
  logic_leads n pl cs hc ss a s e out w M j m c o y ls st i sc fw lt lM ab g =
      context_leads cs hc (one op.Drop then one op.Commit then one op.True) (one op.False) (λ e1 v y. value c.env truth y)
      (λ y. value c.env falsity y) ss a s e out M j m c o y ls st i sc lt lM g
      (λ m le i l s e1 env v w1 ls x g bs.
      let r = then_stand z s e1 (one op.Drop) (one op.Commit then one op.True) x in
      let r2 = then_stand z (next s) e1 (one op.Commit) (one op.True) r.1 in
      let drop = op_stands z r.0 in
      does_leads z drop.is (open_leads z _ drop.fit
      (commit_leads z y.state i l (op_stands z r2.0).is (op_stands z (widened z i l r2.0)).fit
      (op_leads z (widened z i l r2.1) (λ h. open_leads z _ h.fit (value_here z {w = with_state y w1} g))))))
      (λ s v ls x g. op_leads z x (λ h. open_leads z _ h.fit (value_here z g)))

  pub option_leads : (n : ℕ) (pl : Place) (cs : Trees) → ConditionsLead z differ top cs →
      EvLeads z differ top (tree n pl (t.Shape.option cs))
  option_leads n pl cs hc ss a s e out w M j m c o y ls st i sc fw lt lM ab g =
      context_leads cs hc (one op.Commit then placed pl op.Some) (one op.False) (λ e1 v y. told (still (option_of v) y.state) pl c.env y)
      (λ y. value c.env falsity y) ss a s e out M j m c o y ls st i sc lt lM g
      (λ m le i l s e1 env v w1 ls x g bs.
      let r = then_stand z s e1 (one op.Commit) (placed pl op.Some) x in
      let some = placed_stand z pl op.Some (widened z i l r.1) in
      commit_leads z y.state i l (op_stands z r.0).is (op_stands z (widened z i l r.0)).fit
      (op_leads z (widened z i l r.1)
      (λ h. told_leads z (still (option_of v) w1) pl {w = with_state y w1} c.env some.place h.fit (still_calm z (option_of v) w1) g)))
      (λ s v ls x g. op_leads z x (λ h. open_leads z _ h.fit (value_here z g)))
