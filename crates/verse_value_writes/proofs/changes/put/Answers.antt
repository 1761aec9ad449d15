use Rattle.std.proofs.Common.{◌≡◌, rules}
use Rattle.verse_value.specs.View.{val_of, vals_of}
use Rattle.verse_value.specs.Places.{end_of, there}
use Rattle.verse_value_writes.proofs.Along.{put_there, put_back_again}
use Rattle.verse_value_writes.proofs.changes.put.Goals as goal

pub returns-clause-there : goal.returns-clause-there
returns-clause-there c =
    let old : end_of (vals_of c.args.path.now) (val_of c.args.slot.now) ≡ there (val_of c.in-Ok-Some.old) = search rules in
    put_there (vals_of c.args.path.now) (val_of c.args.slot.now) (val_of c.apply.new.slot) (val_of c.args.value)
    (val_of c.in-Ok-Some.old) c.in-Ok-Some.ensures.ok old

pub returns-clause-back : goal.returns-clause-back
returns-clause-back c =
    let old : end_of (vals_of c.args.path.now) (val_of c.args.slot.now) ≡ there (val_of c.in-Ok-Some.old) = search rules in
    put_back_again (vals_of c.args.path.now) (val_of c.args.slot.now) (val_of c.apply.new.slot) (val_of c.args.value)
    (val_of c.in-Ok-Some.old) c.in-Ok-Some.ensures.ok old
