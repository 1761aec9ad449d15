use Rattle.std.proofs.Common.{map, ap}
use Rattle.verse_tree.specs.View.{tree_of, trees, cases_of}
use Rattle.lower_expr.specs.Building.{built}
use Rattle.lower_expr.specs.Locals.{scope_of}
use Rattle.lower_blocks.proofs.Arming.{case_by, case_cut}
use Rattle.lower_blocks.proofs.cases.case.Goals as goal

pub returns-clause-code : goal.returns-clause-code
returns-clause-code g c =
    case_by c.args.lowering.now.tables.now.program.now (cases_of c.args.cases.now).0 (tree_of c.subject.result.now)
    (trees (cases_of c.args.cases.now).1) (trees (map tree_of c.arms.result.now)) (scope_of c.args.scopes.now) _
    _ c.args.around
    c.in_ok-local.local (built c.args.builder.now) _ _ _ c.in_ok-local.ensures
    c.subject.ensures c.in_ok-part.ensures.scopes
    c.in_ok-add.ensures
    (ap trees c.arms.ensures) c.in_ok-part.ensures.code c.in_ok-put_away.ensures c.in_ok-all_arms.ensures.code

pub returns-clause-scopes : goal.returns-clause-scopes
returns-clause-scopes g c =
    case_cut c.in_ok-local.local (scope_of c.args.scopes.now) _ _ _ _ c.in_ok-local.ensures c.in_ok-part.ensures.scopes
    c.in_ok-add.ensures
    c.in_ok-all_arms.ensures.scopes c.cut.ensures
