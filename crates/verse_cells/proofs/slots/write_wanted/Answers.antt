use Rattle.verse_value.specs.View.{val_of, vals_of}
use Rattle.verse_value_writes.specs.Writes.{written}
use Rattle.verse_cells.proofs.Wanting.{wrote_nothing}
use Rattle.verse_cells.proofs.slots.write_wanted.Goals as goal

pub returns-in_ok-undo-in-Nothing-clause-ok : goal.returns-in_ok-undo-in-Nothing-clause-ok
returns-in_ok-undo-in-Nothing-clause-ok c =
    wrote_nothing c.args.wanted (written (vals_of c.args.path.now) c.args.mode (val_of c.args.value) (val_of c.args.slot.now))
    (val_of c.store_logged.new.slot) c.in-Nothing.is c.in_ok-undo-in-Nothing.ensures.ok
