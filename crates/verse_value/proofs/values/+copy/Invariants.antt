use Rattle.std.proofs.Common.{◌≡◌, ◌+◌, take}
use Rattle.verse_value.specs.View.{val_of, vals_of}
use Rattle.verse_value.specs.Val.{vals}
use Rattle.verse_value.specs.Bulk.{bulk, bulks, pair_bulks}
use Rattle.verse_value.proofs.values.+copy.Given as goal

abbrev pub decreases-Value::copy : goal.decreases-Value::copy
decreases-Value::copy l = bulk (val_of l.self.now)

abbrev pub decreases-copy_all : goal.decreases-copy_all
decreases-copy_all l = bulks (vals (vals_of l.values.now))

abbrev pub decreases-copy_map : goal.decreases-copy_map
decreases-copy_map l = pair_bulks l.entries.now + 1

abbrev pub invariant-copy_all-values : goal.invariant-copy_all-values
invariant-copy_all-values l = vals_of l.copies.items ≡ vals_of (take l.value-index l.values)
