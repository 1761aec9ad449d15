-- A `defer` among the statements of a block.
use Rattle.std.proofs.Common.{◌≡◌, ℕ, suc, ◌≤◌, List, ◌∷◌, Bool, true, false, refl, arith}
use Rattle.verse_base.specs.declared.places.Place.{Place}
use Rattle.verse_tree.specs.Tree.{Tree, tree}
use Rattle.verse_tree.specs.Tree as t
use Rattle.verse_code.specs.declared.operations.Op.TheVariants as op
use Rattle.verse_value.specs.Val.{Val, unit}
use Rattle.verse_meaning.specs.Residuals.{deferred}
use Rattle.verse_meaning.specs.Outcomes.{World, Outcome, closing}
use Rattle.verse_meaning.specs.Runs.{deeper}
use Rattle.verse_code_machine.specs.Frames.{fits, kept_defers}
use Rattle.lower_code.specs.Pieces.{Spot, past, next, one, ahead, ◌then◌}
use Rattle.lower_code.specs.Scopes.{Scope as Names}
use Rattle.lower_code.specs.declared.arounds.Around.{Around as Where}
use Rattle.lower_code.specs.Arounds.{enclosed}
use Rattle.lower_code.specs.Lowering as low
use Rattle.lower_code.specs.Lowering.{piece}
use Rattle.lower_simulation.proofs.Claims.{Way, Setting, Ctx, Around, at, Good, on, Here}
use Rattle.lower_simulation.proofs.Going.{le_self}
use Rattle.lower_simulation.proofs.Contexts.{deferring, running, running_static}
use Rattle.lower_simulation.proofs.Standing.{Stands, past_le, then_stand, op_stands, ahead_stand}
use Rattle.lower_simulation.proofs.Leading.{LeadsTo, open_leads}
use Rattle.lower_simulation.proofs.Forms.{Static, EvLeads, at_leads, start_leads}
use Rattle.lower_simulation_tasks.proofs.Defers.{BlockLeads, defer_leads, not_free}

module _ (z : Setting) (differ : ℕ → ℕ → Bool) (top : ℕ) where
  -- from s to m stands a `defer` of the block d: where what follows it leads to the Leave at p, then so does all
  pub defer_lead : (number : ℕ) (pl : Place) (d : Tree) → EvLeads z differ top d → (ss : Names) (a : Where) (s m : Spot) (out : Way)
      (M j n p : ℕ) (c : Ctx) (o : Around) (y : World) (ls st : List Val) (u : Outcome) (least : ℕ) → Here z.code p (op.Leave least) →
      fits c.handlers p ≡ true → least ≤ a.defers → kept_defers c.handlers ≤ least →
      Stands z (fits c.handlers) c.size out s
      ((ahead op.Defer (low.inner z.program differ (tree number pl (t.Shape.defer d)) ss a then one op.Drop then one op.DeferEnd) then
      one op.Unit) s) m → Static top c ss out a → n ≤ top → n ≤ M → Good n c.who.path o c.held c.also c.size y.state ls →
      LeadsTo z j n (deferring c (suc s.at)) o y.behind y.tasks (at (deferring c (suc s.at)) o y.state ls (unit ∷ st) m.at) (on p st) u →
      LeadsTo z j n c o y.behind y.tasks (at c o y.state ls st s.at) (on p st)
      (closing u (λ w. (deeper z.program M).parts d c.env w) (deferred c.env d) c.env)
  defer_lead number pl d hd ss a s m out M j n p c o y ls st u least hl fp lo hi i sc lt lM g h =
      let f = piece z.program differ d ss (enclosed a) in
      let block = f then one op.Drop then one op.DeferEnd in
      let r = then_stand z s m (ahead op.Defer block) (one op.Unit) i in
      let l = past s (ahead op.Defer block s) in
      let v = ahead_stand z s l op.Defer block r.0 in
      let r2 = then_stand z (next s) l f (one op.Drop then one op.DeferEnd) v.inside in
      let e = past (next s) (f (next s)) in
      let r3 = then_stand z e l (one op.Drop) (one op.DeferEnd) r2.1 in
      let drop = op_stands z r3.0 in
      let de = sc.defers in
      let fb = v.inside.fit (suc s.at) le_self (past_le (next s) l (block (next s)) v.inside.ends) in
      let h1 : Here z.code e.at op.Drop = record { is = drop.is } in
      let h2 : Here z.code (suc e.at) op.DeferEnd = record { is = (op_stands z r3.1).is } in
      let leads : BlockLeads z c d (suc s.at) e.at top fb h1 drop.fit h2 sc.noted sc.breaks sc.returns =
      (λ j k M x stk lt lM o w ls g. hd ss (enclosed a) (next s) e out false M j k (running c x stk) o w ls stk r2.0
      (running_static x stk sc) (not_free c.handlers x c.life.noted c.below) lt lM refl g) in
      defer_leads z c d (suc s.at) e.at top fb h1 drop.fit h2 sc.noted sc.breaks sc.returns leads p least st hl
      (record { handled = hi; there = omega (arith, lo, de) }) fp
      j n M lt lM s.at l.at (record { is = v.begins }) (v.wide l.at
      (past_le s l (ahead op.Defer block s) refl) le_self) refl o y.state ls y.behind
      y.tasks u (at_leads z r.1 (λ b. open_leads z y.state b.fit (start_leads z r.1.ends h)))
