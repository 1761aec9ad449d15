use Rattle.verse_tree.specs.Tree as t
use Rattle.lower_expr.specs.Building.{built}
use Rattle.lower_expr.specs.Locals.{scope_of}
use Rattle.lower_parts.specs.Parts.{form_code}
use Rattle.lower_calls.proofs.Halves.{two_made}
use Rattle.lower_calls.proofs.targets.set.Goals as goal

pub returns-clause-code : goal.returns-clause-code
returns-clause-code g c =
    two_made (λ b d. form_code c.args.lowering.now.tables.now.program.now
    (t.Shape.assignment c.args.assign b d) 0 c.args.place
    (scope_of c.args.scopes.now) c.args.around) c.args.parts.now c.get.result.now c.get-2.result.now
    (built c.args.builder.now) _
    c.get.ensures c.get-2.ensures c.in_ok-assigned.ensures.code
