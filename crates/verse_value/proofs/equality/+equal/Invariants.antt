use Rattle.std.proofs.Common.{◌≡◌, ◌+◌, ◌↔◌, drop, length}
use Rattle.verse_value.specs.View.{val_of, vals_of}
use Rattle.verse_value.specs.Bulk.{bulk, bulks, pair_bulks}
use Rattle.verse_value.specs.Val.{vals}
use Rattle.verse_value.proofs.equality.+equal.Given as goal

abbrev pub decreases-equal : goal.decreases-equal
decreases-equal l = bulk (val_of l.a.now)

abbrev pub decreases-equal_all : goal.decreases-equal_all
decreases-equal_all l = bulks (vals (vals_of l.xs.now))

abbrev pub decreases-equal_maps : goal.decreases-equal_maps
decreases-equal_maps l = pair_bulks l.xs.now + 1

abbrev pub invariant-equal_all-values : goal.invariant-equal_all-values
invariant-equal_all-values l = record {
  long : length l.xs ≡ length l.ys;
  rest : (vals (vals_of (drop l.i l.xs)) ≡ vals (vals_of (drop l.i l.ys))) ↔ (vals (vals_of l.xs) ≡ vals (vals_of l.ys));
}
