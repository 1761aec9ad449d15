use Rattle.std.proofs.Common.{◌≡◌, take}
use Rattle.verse_value.specs.View.{vals_of}
use Rattle.verse_value_writes.proofs.paths.Path.copy.Given as goal

abbrev pub invariant-indices : goal.invariant-indices
invariant-indices l = vals_of l.copies.items ≡ vals_of (take l.index-index l.index-items)
