use Rattle.std.proofs.Common.{arith, refl}
use Rattle.verse_value.specs.View.{val_of}
use Rattle.verse_value_writes.proofs.KeyPaths.{pop_fits, popped_back}
use Rattle.verse_value_writes.proofs.writes.undo_at.Goals as goal

pub take_last-requires-in-len1-up : goal.take_last-requires-in-len1-up
take_last-requires-in-len1-up c = pop_fits c.args.path.now c.args.path.now (omega arith) refl
    (val_of c.args.slot.now) c.args.undo c.in-DropLast.is c.requires

pub returns-in-len1-up : goal.returns-in-len1-up
returns-in-len1-up c = popped_back c.args.path.now c.args.path.now (omega arith) refl (val_of c.args.slot.now)
    (val_of c.take_last-in-len1-up.new.slot) c.args.undo c.in-DropLast.is c.take_last-in-len1-up.ensures
