-- The nodes of one file, and their numbers.
use Rattle.std.proofs.Common.{◌≡◌, ◌<◌, ◌≤◌, ℕ, List, [], ◌∷◌, map, arith}
use Rattle.verse_tree.specs.ItemTree.{ItemTree}
use Rattle.verse_tree.specs.ItemView.{item_of}
use Rattle.verse_tree.specs.Numbering.{items_nodes, item_nodes, items_numbered, program_nodes}
use Rattle.verse_tree.specs.declared.items.Item.{Item}
use Rattle.verse_tree.proofs.Order.{both_nodes}
use Rattle.verse_rules_walk.specs.Order.{AreNumbered}
use Rattle.verse_join.specs.Joining.{joined}
use Rattle.verse_names_items.specs.Nodes.{IsNumbered}

pub one_file : (items : List Item) → items_nodes (map item_of items) ≤ 100000 → program_nodes (joined (items ∷ [])) < 4294967295
one_file items h = let e = both_nodes (map item_of items) [] in omega (arith, e)

pub counted : (files : List (List Item)) (is : List ItemTree) (n : ℕ) → is ≡ items_numbered (joined files) 0 →
    n ≡ program_nodes (joined files) → IsNumbered is n
counted files is n e f = (joined files, e, f)

pub numbered : (files : List (List Item)) (is : List ItemTree) → is ≡ items_numbered (joined files) 0 → AreNumbered is
numbered files is e = (joined files, e)
