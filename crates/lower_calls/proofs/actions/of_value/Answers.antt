use Rattle.std.proofs.Common.{true}
use Rattle.verse_tree.specs.View.{tree_of}
use Rattle.lower_code.specs.Applied.{finish}
use Rattle.lower_lookup.specs.Actions.{form_of}
use Rattle.lower_expr.specs.Building.{built}
use Rattle.lower_expr.specs.Locals.{scope_of}
use Rattle.lower_parts.specs.Parts.{tree_code}
use Rattle.lower_calls.proofs.Steps.{two_steps}
use Rattle.lower_calls.proofs.actions.of_value.Goals as goal

pub returns-clause-code : goal.returns-clause-code
returns-clause-code g c =
    let p = c.args.lowering.now.tables.now.program.now in
    let sc = scope_of c.args.scopes.now in
    two_steps (tree_code p (tree_of c.args.callee.now) sc c.args.around) (finish (form_of c.args.action) 0 true) _
    (built c.args.builder.now) _ _
    c.in_ok-part.ensures.code c.in_ok-ending.ensures c.in_ok-applied.ensures
