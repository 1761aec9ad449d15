use Rattle.verse_value.specs.View.{val_of}
use Rattle.verse_cells.proofs.Places.{stored_cells, cell_there}
use Rattle.verse_cells.proofs.slots.put.Goals as goal

pub returns-clause-new : goal.returns-clause-new
returns-clause-new c =
    stored_cells c.args.cell c.args.slot c.args.cells.now c.index-cells-cell.result c.put_part.new.slots (val_of c.args.value)
    (cell_there c.args.cells.now c.args.cell c.args.slot c.requires) c.put_part.ensures.new
