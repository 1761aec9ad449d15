use Rattle.verse_value_writes.proofs.Inside.{lacking_place}
use Rattle.verse_value_writes.proofs.changes.push_entry.Goals as goal

pub push-requires : goal.push-requires
push-requires c = lacking_place c.args.entries.now c.args.key c.requires
