use Rattle.std.proofs.Common.{Some}
use Rattle.lower_expr.specs.Locals.{scope_of}
use Rattle.note_stretches.specs.Noted.{noted}
use Rattle.note_calls.specs.Calls.{spawned_walk}
use Rattle.note_calls.proofs.Halves.{applied_walked}
use Rattle.note_calls.proofs.calls.spawned.Goals as goal

pub returns-clause-states : goal.returns-clause-states
returns-clause-states g c =
    let p = c.args.noter.now.tables.now.program.now in
    let sc = scope_of c.args.scopes.now in
    applied_walked (λ b ts. spawned_walk p (Some (b, ts)) c.args.place sc c.args.around) c.args.parts.now
    c.get.result.now c.as_slice.result.now
    (noted c.args.noting.now) _ c.get.ensures c.as_slice.ensures c.in_ok-started.ensures.states
