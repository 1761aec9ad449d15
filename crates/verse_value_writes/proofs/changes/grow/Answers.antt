use Rattle.verse_value.specs.View.{val_of, vals_of}
use Rattle.verse_value_writes.proofs.Along.{grown_can_be_taken, grown_taken_again, grown_is}
use Rattle.verse_value_writes.proofs.Along.{grown_there}
use Rattle.verse_value_writes.proofs.changes.grow.Goals as goal

pub returns-clause-ok : goal.returns-clause-ok
returns-clause-ok c = grown_is (vals_of c.args.path.now) (val_of c.args.slot.now)
    (val_of c.apply.new.slot) c.args.more c.in_ok-apply.ensures.ok c.requires

pub returns-clause-there : goal.returns-clause-there
returns-clause-there c = grown_there (vals_of c.args.path.now) (val_of c.args.slot.now)
    (val_of c.apply.new.slot) c.args.more c.in_ok-apply.ensures.ok c.requires

pub returns-clause-can_undo : goal.returns-clause-can_undo
returns-clause-can_undo c = grown_can_be_taken (vals_of c.args.path.now) (val_of c.args.slot.now)
    (val_of c.apply.new.slot) c.args.more c.in_ok-apply.ensures.ok c.requires

pub returns-clause-undo : goal.returns-clause-undo
returns-clause-undo c = grown_taken_again (vals_of c.args.path.now) (val_of c.args.slot.now)
    (val_of c.apply.new.slot) c.args.more c.in_ok-apply.ensures.ok c.requires
