use Rattle.std.proofs.Common.{◌≡◌, ◌+◌, drop}
use Rattle.verse_value.specs.View.{val_of, vals_of}
use Rattle.verse_value.specs.Val.{vals}
use Rattle.verse_value.specs.Bulk.{bulk, bulks, pair_bulks}
use Rattle.run_save_format.specs.Whole.{name_none}
use Rattle.run_save_whole.proofs.cells.+names.Given as goal

abbrev pub decreases-names_none : goal.decreases-names_none
decreases-names_none l = bulk (val_of l.value.now)

abbrev pub decreases-name_none : goal.decreases-name_none
decreases-name_none l = bulks (vals (vals_of l.values.now))

abbrev pub decreases-pairs_name_none : goal.decreases-pairs_name_none
decreases-pairs_name_none l = pair_bulks l.pairs.now + 1

abbrev pub invariant-name_none-values : goal.invariant-name_none-values
invariant-name_none-values l =
    name_none l.entries (vals (vals_of (drop l.i l.values))) ≡ name_none l.entries (vals (vals_of l.values))
