use Rattle.std.proofs.Common.{◌≡◌, ◌+◌, ◌≤◌, min, drop}
use Rattle.verse_value.specs.Sizes.{keys_weight}
use Rattle.verse_value.proofs.values.size_of_keys.Given as goal

abbrev pub invariant-keys : goal.invariant-keys
invariant-keys l = record {
  sum : min (l.sum.weight + keys_weight (drop l.key-index l.keys)) 18446744073709551615 ≡ min (keys_weight l.keys) 18446744073709551615;
  fits : l.sum.weight ≤ 18446744073709551615;
}
