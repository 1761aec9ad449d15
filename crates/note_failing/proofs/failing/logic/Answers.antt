use Rattle.std.proofs.Common.{map}
use Rattle.verse_tree.specs.View.{tree_of, trees}
use Rattle.lower_expr.specs.Locals.{scope_of}
use Rattle.note_stretches.specs.Noted.{noted}
use Rattle.note_failing.proofs.Ifs.{logic_by}
use Rattle.note_failing.proofs.failing.logic.Goals as goal

pub returns-clause-states : goal.returns-clause-states
returns-clause-states g c =
    logic_by c.args.noter.now.tables.now.program.now (scope_of c.args.scopes.now) c.args.around
    (trees (map tree_of c.args.parts.now)) c.args.node _ _ (noted c.args.noting.now) _ _ _ _ _ _ c.enclosed.ensures
    c.in_ok-before.ensures.before c.in_ok-before.ensures.begun c.in_ok-own_statements.ensures.states c.in_ok-drop_values.ensures
    c.in_ok-commit.ensures c.in_ok-push.ensures c.in_ok-other_last.ensures
