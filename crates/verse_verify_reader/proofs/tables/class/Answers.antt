use Rattle.verse_verify_notes.specs.View.{sorts_of}
use Rattle.verse_verify_reader.proofs.Joining.{a_class}
use Rattle.verse_verify_reader.proofs.tables.class.Goals as goal

pub returns : goal.returns
returns c =
    a_class c.args.code.now c.args.class.now c.args.bytes.now c.in_ok-number.number c.in_ok-number.rest.now
    (sorts_of c.in_ok-slots.slots.items) c.in_ok-slots.rest.now c.parent_of-parent.result c.in_ok-number.ensures c.in_ok-slots.ensures
    (c.parent_of-parent.ensures c.args.code.now)
