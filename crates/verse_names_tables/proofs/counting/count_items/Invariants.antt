use Rattle.std.proofs.Common.{◌≡◌, ◌++◌, drop, map}
use Rattle.verse_tree.specs.ItemView.{item_of}
use Rattle.verse_names_tables.specs.Counting.{counted, counted_of, no_counts}
use Rattle.verse_names_tables.proofs.counting.count_items.Given as goal

-- what is done and what is left are all
abbrev pub invariant-items : goal.invariant-items
invariant-items l = map counted_of l.found.items ++ counted l.before (map item_of (drop l.item-index l.items)) ≡
    counted no_counts (map item_of l.items)
