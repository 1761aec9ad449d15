use Rattle.verse_value.specs.View.{vals_of}
use Rattle.verse_cells.specs.Changes.{IsUndone}
use Rattle.verse_cells.proofs.Places.{in_cell, cell_undo}
use Rattle.verse_cells.proofs.slots.take_back.Goals as goal

pub returns : goal.returns
returns c =
    in_cell c.args.at.cell c.args.at.slot (IsUndone (vals_of c.args.path.now) c.args.undo) c.args.cells.now c.index-cells-at.result
    c.take_back_part.new.slots (cell_undo (vals_of c.args.path.now) c.args.undo c.args.cells.now c.args.at.cell c.args.at.slot
    c.requires) c.take_back_part.ensures
