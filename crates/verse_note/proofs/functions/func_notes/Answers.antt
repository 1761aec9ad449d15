use Rattle.std.proofs.Common.{length}
use Rattle.verse_note.proofs.Bodies.{notes_next, notes_done}
use Rattle.verse_note.proofs.functions.func_notes.Goals as goal

pub bodies-preserved : goal.bodies-preserved
bodies-preserved c code =
    rw c.in_ok-push.ensures.items
    (notes_next c.args.program.now code c.args.bodies.now c.bodies.body-index c.bodies.number
    (length c.args.classes.now) c.bodies.notes.items _ c.body-item.result _ _ c.bodies-test.true c.body-item.is
    (c.in_ok-func_note.ensures code) c.in_ok-number.ensures (c.bodies.invariant code))

pub returns : goal.returns
returns c code =
    notes_done c.args.program.now code c.args.bodies.now c.bodies.body-index c.bodies.number
    (length c.args.classes.now) c.bodies.notes.items _ c.bodies-test.false (c.bodies.invariant code)
