use Rattle.std.proofs.Common.{◌≡◌, drop, map}
use Rattle.verse_tree.specs.ItemView.{item_of}
use Rattle.lower_items.specs.Noted.{entries_of, items_noted}
use Rattle.lower_items.proofs.params.note_items.Given as goal

-- what is left, from here on, ends as all does from the start
abbrev pub invariant-items : goal.invariant-items
invariant-items l = items_noted (map item_of (drop l.item-index l.items)) (entries_of l.found) ≡
    items_noted (map item_of l.items) (entries_of l.fn.found)
