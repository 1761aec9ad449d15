use Rattle.verse_tree.specs.Tree as t
use Rattle.lower_expr.specs.Building.{built}
use Rattle.lower_expr.specs.Locals.{scope_of}
use Rattle.lower_parts.specs.Parts.{form_code}
use Rattle.lower_calls.proofs.Halves.{applied_made}
use Rattle.lower_calls.proofs.calls.index.Goals as goal

pub returns-clause-code : goal.returns-clause-code
returns-clause-code g c =
    let p = c.args.lowering.now.tables.now.program.now in
    let sc = scope_of c.args.scopes.now in
    applied_made (λ b ts. form_code p (t.Shape.index b ts) 0 c.args.place sc c.args.around) c.args.parts.now
    c.get.result.now c.as_slice.result.now
    (built c.args.builder.now) _ c.get.ensures c.as_slice.ensures c.in_ok-read_at.ensures.code
