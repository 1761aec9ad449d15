use Rattle.std.proofs.Common.{sym, map, true}
use Rattle.verse_tree.specs.View.{tree_of, trees}
use Rattle.lower_code.specs.Applied.{finish}
use Rattle.lower_lookup.specs.Actions.{form_of}
use Rattle.lower_expr.specs.Building.{built}
use Rattle.lower_expr.specs.Locals.{scope_of}
use Rattle.lower_parts.specs.Parts.{no_place}
use Rattle.lower_calls.specs.Calls.{divided_code, divided_in}
use Rattle.lower_calls.proofs.Seen.{divided_is}
use Rattle.lower_calls.proofs.Steps.{two_steps, same_made}
use Rattle.lower_calls.proofs.actions.of_quotient.Goals as goal

pub returns-clause-code : goal.returns-clause-code
returns-clause-code g c =
    let p = c.args.lowering.now.tables.now.program.now in
    let sc = scope_of c.args.scopes.now in
    let ts = trees (map tree_of c.args.args.now) in
    let f = form_of c.args.action in
    two_steps _ (finish f 2 true) _ (built c.args.builder.now) _ _
    (same_made (divided_code p (divided_in ts) sc c.args.around) _ _ _ c.in_ok-divided.ensures.code
    (sym (divided_is p sc c.args.around ts f no_place)))
    c.in_ok-ending.ensures c.in_ok-applied.ensures
