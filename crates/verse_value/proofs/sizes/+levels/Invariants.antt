use Rattle.std.proofs.Common.{◌≡◌, ◌≤◌, min, max, drop}
use Rattle.verse_value.specs.View.{val_of, vals_of}
use Rattle.verse_value.specs.Val.{vals}
use Rattle.verse_value.specs.Bulk.{bulk, bulks}
use Rattle.verse_value.specs.Sizes.{most_levels}
use Rattle.verse_value.proofs.sizes.+levels.Given as goal

abbrev pub decreases-levels : goal.decreases-levels
decreases-levels l = bulk (val_of l.v.now)

abbrev pub decreases-most_of : goal.decreases-most_of
decreases-most_of l = bulks (vals (vals_of l.values.now))

abbrev pub invariant-most_of-values : goal.invariant-most_of-values
invariant-most_of-values l = record {
  most : min (max l.most (most_levels (vals (vals_of (drop l.value-index l.values))))) 18446744073709551615 ≡
      min (most_levels (vals (vals_of l.values))) 18446744073709551615;
  fits : l.most ≤ 18446744073709551615;
}
