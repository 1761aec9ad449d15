use Rattle.verse_tree.specs.Tree as t
use Rattle.lower_expr.specs.Locals.{scope_of}
use Rattle.note_stretches.specs.Noted.{noted}
use Rattle.note_parts.specs.Parts.{form_walk}
use Rattle.note_calls.proofs.Halves.{applied_walked}
use Rattle.note_calls.proofs.calls.call.Goals as goal

pub returns-clause-states : goal.returns-clause-states
returns-clause-states g c =
    let p = c.args.noter.now.tables.now.program.now in
    let sc = scope_of c.args.scopes.now in
    applied_walked (λ b ts. form_walk p (t.Shape.call b ts) 0 c.args.place sc c.args.around) c.args.parts.now
    c.get.result.now c.as_slice.result.now
    (noted c.args.noting.now) _ c.get.ensures c.as_slice.ensures c.in_ok-called.ensures.states
