use Rattle.std.proofs.Common.{◌≡◌, ◌++◌, drop, map}
use Rattle.verse_tree.specs.ItemView.{item_of}
use Rattle.verse_names_items.specs.Tables.{enum_tables}
use Rattle.verse_names_items.proofs.tables.enum_tables.Given as goal

-- what is done and what is left are all
abbrev pub invariant-items : goal.invariant-items
invariant-items l = l.found ++ enum_tables (map item_of (drop l.item-index l.items)) ≡ enum_tables (map item_of l.items)
