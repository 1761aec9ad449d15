use Rattle.std.proofs.Common.{map, ap}
use Rattle.verse_tree.specs.View.{tree_of, trees, cases_of}
use Rattle.lower_expr.specs.Locals.{scope_of}
use Rattle.lower_blocks.proofs.Arming.{case_cut}
use Rattle.note_stretches.specs.Noted.{noted}
use Rattle.note_cases.proofs.Arming.{case_by}
use Rattle.note_cases.proofs.cases.case.Goals as goal

pub returns-clause-states : goal.returns-clause-states
returns-clause-states g c =
    case_by c.args.noter.now.tables.now.program.now (cases_of c.args.cases.now).0 (tree_of c.subject-part.result.now)
    (trees (cases_of c.args.cases.now).1) (trees (map tree_of c.arms.result.now)) (scope_of c.args.scopes.now) _
    _ c.args.around
    c.in_ok-local.local c.number_of.result (noted c.args.noting.now) _ _ _ c.in_ok-local.ensures
    c.subject-part.ensures c.in_ok-part.ensures.scopes
    c.in_ok-add.ensures
    (ap trees c.arms.ensures) c.in_ok-part.ensures.states c.number_of.ensures c.in_ok-put.ensures c.in_ok-all_arms.ensures.states

pub returns-clause-scopes : goal.returns-clause-scopes
returns-clause-scopes g c =
    case_cut c.in_ok-local.local (scope_of c.args.scopes.now) _ _ _ _ c.in_ok-local.ensures c.in_ok-part.ensures.scopes
    c.in_ok-add.ensures
    c.in_ok-all_arms.ensures.scopes c.cut.ensures
