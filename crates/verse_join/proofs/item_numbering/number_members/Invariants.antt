use Rattle.std.proofs.Common.{◌≡◌, ◌+◌, ◌++◌, map, drop}
use Rattle.verse_tree.specs.Numbering.{member_numbered, member_nodes, list_numbered, list_nodes}
use Rattle.verse_tree.specs.ItemView.{member_of}
use Rattle.verse_join.proofs.item_numbering.number_members.Given as goal

-- what is done, and what is left from the next number on, are all
abbrev pub invariant-parts : goal.invariant-parts
invariant-parts l = record {
  done : map member_of l.done ++ list_numbered member_numbered member_nodes (map member_of (drop l.part-index l.parts)) l.at ≡
      list_numbered member_numbered member_nodes (map member_of l.parts) l.next;
  count : l.at + list_nodes member_nodes (map member_of (drop l.part-index l.parts)) ≡
      l.next + list_nodes member_nodes (map member_of l.parts);
}
