use Rattle.verse_value.specs.View.{vals_of}
use Rattle.verse_cells.specs.Changes.{IsUndone}
use Rattle.verse_cells.proofs.Places.{in_slot}
use Rattle.verse_cells.proofs.slots.take_back_part.Goals as goal

pub returns : goal.returns
returns c =
    in_slot c.args.slot (IsUndone (vals_of c.args.path.now) c.args.undo) c.args.slots.now c.part_mut.result.now c.take_back.new.slot
    c.part_mut.ensures.value c.take_back.ensures
