use Rattle.std.proofs.Common.{◌≡◌, ◌+◌, ◌≤◌, min, max, drop}
use Rattle.verse_value.specs.View.{vals_of}
use Rattle.verse_value.specs.Val.{vals}
use Rattle.verse_value.specs.Sizes.{weights, most_levels}
use Rattle.verse_value.proofs.values.size_of_all.Given as goal

abbrev pub invariant-values : goal.invariant-values
invariant-values l = record {
  sum : min (l.sum.weight + weights (vals (vals_of (drop l.value-index l.values)))) 18446744073709551615 ≡
      min (weights (vals (vals_of l.values))) 18446744073709551615;
  fits : l.sum.weight ≤ 18446744073709551615;
  most : min (most_levels (vals (vals_of l.values))) 18446744073709551615 ≤ max l.sum.levels
      (min (most_levels (vals (vals_of (drop l.value-index l.values)))) 18446744073709551615);
}
