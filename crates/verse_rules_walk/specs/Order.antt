-- The nodes with what stands round them are those of a program in written post-order.
use Rattle.std.specs.Prelude.{◌≡◌, List, map, length}
use Rattle.std.specs.List.{range_with_len}
use Rattle.verse_tree.specs.ItemTree.{ItemTree}
use Rattle.verse_tree.specs.Numbering.{items_numbered}
use Rattle.verse_tree.specs.PostOrder.{items_order}
use Rattle.verse_rules_least.specs.Least.{InOrder}
use Rattle.verse_rules_walk.specs.Nodes.{alone, number_of, items_nodes}

-- but for what stands round them
abbrev pub InPostOrder : Type 0
InPostOrder = (is : List ItemTree) → map alone (items_nodes is) ≡ items_order is

-- the items of a program whose nodes are numbered from 0
abbrev pub AreNumbered : List ItemTree → Type 0
AreNumbered is = (written : List ItemTree) × (is ≡ items_numbered written 0)

-- in such a program the first node has the number 0, and each other one the next number
abbrev pub NumbersInRow : Type 0
NumbersInRow = (is : List ItemTree) → AreNumbered is →
    map number_of (items_nodes is) ≡ range_with_len 0 (length (items_nodes is))

-- so the numbers rise from node to node
abbrev pub NumbersRise : Type 0
NumbersRise = (is : List ItemTree) → AreNumbered is → InOrder number_of (items_nodes is)
