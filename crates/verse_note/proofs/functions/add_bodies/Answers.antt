use Rattle.note_stretches.specs.Noted.{noted}
use Rattle.verse_note.proofs.Bodies.{states_next, states_done}
use Rattle.verse_note.proofs.functions.add_bodies.Goals as goal

pub bodies-preserved : goal.bodies-preserved
bodies-preserved c =
    states_next c.args.tables.now.program.now c.args.code.now c.args.bodies.now c.bodies.body-index c.bodies.number
    c.body-item.result _ (noted c.bodies.noting) (noted c.add_body.new.noting) _ c.bodies-test.true c.body-item.is
    c.in_ok-add_body.ensures c.in_ok-number.ensures c.bodies.invariant

pub returns : goal.returns
returns c =
    states_done c.args.tables.now.program.now c.args.code.now c.args.bodies.now c.bodies.body-index c.bodies.number
    (noted c.bodies.noting) _ c.bodies-test.false c.bodies.invariant
