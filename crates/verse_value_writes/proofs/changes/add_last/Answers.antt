use Rattle.verse_value.specs.View.{val_of, vals_of}
use Rattle.verse_value_writes.proofs.Along.{key_can_be_taken, key_taken_again}
use Rattle.verse_value_writes.proofs.changes.add_last.Goals as goal

pub returns-clause-can_undo : goal.returns-clause-can_undo
returns-clause-can_undo c = key_can_be_taken (vals_of c.args.path.now) (val_of c.args.slot.now) (val_of c.apply.new.slot) c.args.key
    (val_of c.args.new) c.in_ok-apply.ensures.ok c.requires

pub returns-clause-undo : goal.returns-clause-undo
returns-clause-undo c = key_taken_again (vals_of c.args.path.now) (val_of c.args.slot.now) (val_of c.apply.new.slot) c.args.key
    (val_of c.args.new) c.in_ok-apply.ensures.ok c.requires
