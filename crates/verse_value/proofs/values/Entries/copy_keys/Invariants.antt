use Rattle.std.proofs.Common.{◌≡◌, take}
use Rattle.verse_value.proofs.values.Entries.copy_keys.Given as goal

abbrev pub invariant-keys : goal.invariant-keys
invariant-keys l = l.copies.keys ≡ take l.key-index l.key-items
