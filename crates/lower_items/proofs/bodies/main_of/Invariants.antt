use Rattle.std.proofs.Common.{◌≡◌, drop, map}
use Rattle.verse_tree.specs.ItemView.{item_of}
use Rattle.lower_code.specs.Programs.{main_from}
use Rattle.lower_items.proofs.bodies.main_of.Given as goal

-- what is done and what is left are all
abbrev pub invariant-items : goal.invariant-items
invariant-items l = main_from l.at (map item_of (drop l.item-index l.items)) ≡ main_from 0 (map item_of l.items)
