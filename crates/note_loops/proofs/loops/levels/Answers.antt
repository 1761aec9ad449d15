use Rattle.std.proofs.Common.{[], map, refl}
use Rattle.verse_tree.specs.View.{tree_of}
use Rattle.verse_meaning.specs.Evaluating.{statement_of}
use Rattle.lower_expr.specs.Locals.{scope_of}
use Rattle.lower_blocks.proofs.Leveled.{extends_more}
use Rattle.note_states.specs.View.{standing_of}
use Rattle.note_stretches.specs.Noted.{noted}
use Rattle.note_loops.proofs.Leveled.{levels_next, levels_cut, levels_done}
use Rattle.note_loops.proofs.loops.levels.Goals as goal

pub parts-init : goal.parts-init
parts-init g c = (([], refl), λ rest. refl)

pub parts-preserved : goal.parts-preserved
parts-preserved g c = (
  extends_more (statement_of (tree_of c.part-item.result)) (scope_of c.args.scopes.now) (scope_of c.parts.scopes) _
      c.in_ok-goes_on.ensures.scopes c.parts.invariant.0,
  levels_next c.args.noter.now.tables.now.program.now c.args.parts.now c.parts.part-index c.args.around
      _ c.in_ok-goes_on.goes_on
      c.part-item.result (scope_of c.parts.scopes) _ (map standing_of c.parts.turns.items) _ (noted c.parts.noting)
      _ c.parts-test.true c.part-item.is
      c.if-not-goes_on.false c.in_ok-goes_on.ensures.states c.parts.invariant.1,
)

pub returns-then-not-goes_on-clause-states : goal.returns-then-not-goes_on-clause-states
returns-then-not-goes_on-clause-states g c = record {
  leads = levels_cut c.args.noter.now.tables.now.program.now c.args.parts.now c.parts.part-index c.args.around _
      c.in_ok-goes_on.goes_on
      c.part-item.result (scope_of c.parts.scopes) _ (map standing_of c.parts.turns.items) _ (noted c.parts.noting)
      _ c.parts-test.true c.part-item.is
      c.if-not-goes_on.true c.in_ok-goes_on.ensures.states c.parts.invariant.1;
}

pub returns-then-not-goes_on-clause-scopes : goal.returns-then-not-goes_on-clause-scopes
returns-then-not-goes_on-clause-scopes g c =
    extends_more (statement_of (tree_of c.part-item.result)) (scope_of c.args.scopes.now) (scope_of c.parts.scopes) _
    c.in_ok-goes_on.ensures.scopes c.parts.invariant.0

pub returns-clause-states : goal.returns-clause-states
returns-clause-states g c = record {
  leads = levels_done c.args.noter.now.tables.now.program.now c.args.parts.now c.parts.part-index c.args.around _
      (scope_of c.parts.scopes)
      (map standing_of c.parts.turns.items) (noted c.parts.noting) c.parts-test.false c.parts.invariant.1;
}
