use Rattle.std.proofs.Common.{ap, map}
use Rattle.verse_tree.specs.View.{tree_of, trees}
use Rattle.lower_lookup.specs.Actions.{form_of}
use Rattle.lower_expr.specs.Building.{built}
use Rattle.lower_expr.specs.Locals.{scope_of}
use Rattle.lower_calls.specs.Views.{object_of}
use Rattle.lower_calls.specs.Calls.{object_code, behind_code}
use Rattle.lower_calls.proofs.Steps.{two_steps}
use Rattle.lower_calls.proofs.actions.of_object.Goals as goal

pub returns-clause-code : goal.returns-clause-code
returns-clause-code g c =
    let p = c.args.lowering.now.tables.now.program.now in
    let sc = scope_of c.args.scopes.now in
    let ts = trees (map tree_of c.args.args.now) in
    let f = form_of c.args.action in
    two_steps (object_code p (object_of (tree_of c.args.callee.now)) sc c.args.around)
    (behind_code p ts sc c.args.around f) _
    (built c.args.builder.now) _ _ c.in_ok-object.ensures.code c.in_ok-behind.ensures.code
    (ap (λ s. behind_code p ts s c.args.around f) c.in_ok-object.ensures.scopes)
