use Rattle.std.proofs.Common.{◌≡◌, ◌++◌, drop, map}
use Rattle.verse_tree.specs.ItemView.{item_of}
use Rattle.lower_code.specs.Programs.{bodies_in}
use Rattle.lower_items.specs.Views.{body_view}
use Rattle.lower_items.proofs.bodies.add_items.Given as goal

-- what is done and what is left are all
abbrev pub invariant-items : goal.invariant-items
invariant-items l = map body_view l.found.items ++ bodies_in (map item_of (drop l.item-index l.items)) ≡
    map body_view l.fn.found.items ++ bodies_in (map item_of l.items)
