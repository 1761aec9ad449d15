use Rattle.std.proofs.Common.{◌≡◌, ◌+◌, ◌++◌, map, drop}
use Rattle.verse_tree.specs.Numbering.{param_numbered, param_nodes, list_numbered, list_nodes}
use Rattle.verse_tree.specs.ItemView.{param_of}
use Rattle.verse_join.proofs.item_numbering.number_params.Given as goal

-- what is done, and what is left from the next number on, are all
abbrev pub invariant-parts : goal.invariant-parts
invariant-parts l = record {
  done : map param_of l.done ++ list_numbered param_numbered param_nodes (map param_of (drop l.part-index l.parts)) l.at ≡
      list_numbered param_numbered param_nodes (map param_of l.parts) l.next;
  count : l.at + list_nodes param_nodes (map param_of (drop l.part-index l.parts)) ≡ l.next + list_nodes param_nodes (map param_of l.parts);
}
