use Rattle.std.proofs.Common.{◌≡◌, drop, map}
use Rattle.verse_tree.specs.ItemView.{item_of}
use Rattle.verse_names_items.specs.Rules.{has_main}
use Rattle.verse_names_items.proofs.rules.has_main.Given as goal

-- what is left decides
abbrev pub invariant-items : goal.invariant-items
invariant-items l = has_main (map item_of (drop l.item-index l.items)) ≡ has_main (map item_of l.items)
