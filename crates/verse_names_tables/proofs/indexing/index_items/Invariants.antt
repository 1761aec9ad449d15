use Rattle.std.proofs.Common.{◌≡◌, drop, map}
use Rattle.verse_names_tables.specs.Counting.{counted_of}
use Rattle.verse_names_tables.specs.Indexing.{index_all, no_index, index_of}
use Rattle.verse_names_tables.proofs.indexing.index_items.Given as goal

-- what is left, from here on, ends as all does from the start
abbrev pub invariant-items : goal.invariant-items
invariant-items l = index_all (map counted_of (drop l.item-index l.items)) (index_of l.found) ≡ index_all (map counted_of l.items) no_index
