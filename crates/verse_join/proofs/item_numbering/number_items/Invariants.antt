use Rattle.std.proofs.Common.{◌≡◌, ◌+◌, ◌++◌, map, drop}
use Rattle.verse_tree.specs.Numbering.{item_numbered, item_nodes, list_numbered, list_nodes}
use Rattle.verse_tree.specs.ItemView.{item_of}
use Rattle.verse_join.proofs.item_numbering.number_items.Given as goal

-- what is done, and what is left from the next number on, are all
abbrev pub invariant-parts : goal.invariant-parts
invariant-parts l = record {
  done : map item_of l.done ++ list_numbered item_numbered item_nodes (map item_of (drop l.part-index l.parts)) l.at ≡
      list_numbered item_numbered item_nodes (map item_of l.parts) l.next;
  count : l.at + list_nodes item_nodes (map item_of (drop l.part-index l.parts)) ≡ l.next + list_nodes item_nodes (map item_of l.parts);
}
