use Rattle.std.proofs.Common.{◌≡◌, map, drop}
use Rattle.verse_tree.specs.ItemView.{item_of}
use Rattle.verse_rules_walk.specs.Through.{through_items}
use Rattle.verse_rules_walk.proofs.items.walk_in_turn.Given as goal

abbrev pub invariant-items : goal.invariant-items
invariant-items g l =
    let step = g.P.Pass.step l.pass in
    through_items step (map item_of (drop l.item-index l.items)) (g.P.Pass.sight l.seen) ≡
    through_items step (map item_of l.items) (g.P.Pass.sight l.fn.seen)
