use Rattle.std.proofs.Common.{◌≡◌, ◌++◌, drop, map}
use Rattle.verse_tree.specs.ItemView.{item_of}
use Rattle.verse_check_typing.specs.Facts.{enum_values}
use Rattle.verse_check_typing.specs.Views.{names_of}
use Rattle.verse_check.proofs.tables.enum_values.Given as goal

-- what is done and what is left are all
abbrev pub invariant-items : goal.invariant-items
invariant-items l = map names_of l.found.items ++ enum_values (map item_of (drop l.item-index l.items)) ≡ enum_values (map item_of l.items)
