-- The nodes of one file, and of two.
use Rattle.std.proofs.Common.{◌<◌, ◌≤◌, ℕ, List, [], ◌∷◌, ◌++◌, map, arith}
use Rattle.verse_tree.specs.ItemView.{item_of}
use Rattle.verse_tree.specs.Numbering.{items_nodes, item_nodes, program_nodes}
use Rattle.verse_tree.specs.declared.items.Item.{Item}
use Rattle.verse_tree.proofs.Order.{both_nodes}
use Rattle.verse_join.specs.Joining.{joined}

pub one_file : (items : List Item) → items_nodes (map item_of items) ≤ 4000000000 → program_nodes (joined (items ∷ [])) < 4294967295
one_file items h = let e = both_nodes (map item_of items) [] in omega (arith, e)

pub two_files : (first second : List Item) → items_nodes (map item_of first) ≤ 2000000000 → items_nodes (map item_of second) ≤ 2000000000 →
    program_nodes (joined (first ∷ second ∷ [])) < 4294967295
two_files first second h k =
    let e = both_nodes (map item_of first) (map item_of second ++ []) in
    let f = both_nodes (map item_of second) [] in
    omega (arith, e, f)
