use Rattle.std.proofs.Common.{◌≡◌, ◌+◌, ◌++◌, map, drop}
use Rattle.verse_tree.specs.Numbering.{numbered, nodes, list_numbered, trees_numbered, trees_nodes, holes_numbered, holes_nodes}
use Rattle.verse_tree.specs.Numbering.{pairs_numbered, pairs_nodes, givens_numbered, givens_nodes}
use Rattle.verse_tree.specs.PartNumbering.{hole_nodes, pair_nodes, given_nodes, hole_numbered, pair_numbered, given_numbered}
use Rattle.verse_tree.specs.View.{tree_of, hole_of, pair_of, given_of, trees, holes, pairs, givens}
use Rattle.verse_join_exprs.proofs.numbering.+number.Given as goal

-- in each loop: what is done, and what is left from the next number on, are all

abbrev pub invariant-number_all-parts : goal.invariant-number_all-parts
invariant-number_all-parts l = record {
  done : trees (map tree_of l.done ++ list_numbered numbered nodes (map tree_of (drop l.part-index l.parts)) l.at) ≡
      trees_numbered (trees (map tree_of l.parts)) l.next;
  count : l.at + trees_nodes (trees (map tree_of (drop l.part-index l.parts))) ≡ l.next + trees_nodes (trees (map tree_of l.parts));
}

abbrev pub invariant-number_holes-parts : goal.invariant-number_holes-parts
invariant-number_holes-parts l = record {
  done : holes (map hole_of l.done ++ list_numbered hole_numbered hole_nodes (map hole_of (drop l.part-index l.parts)) l.at) ≡
      holes_numbered (holes (map hole_of l.parts)) l.next;
  count : l.at + holes_nodes (holes (map hole_of (drop l.part-index l.parts))) ≡ l.next + holes_nodes (holes (map hole_of l.parts));
}

abbrev pub invariant-number_pairs-parts : goal.invariant-number_pairs-parts
invariant-number_pairs-parts l = record {
  done : pairs (map pair_of l.done ++ list_numbered pair_numbered pair_nodes (map pair_of (drop l.part-index l.parts)) l.at) ≡
      pairs_numbered (pairs (map pair_of l.parts)) l.next;
  count : l.at + pairs_nodes (pairs (map pair_of (drop l.part-index l.parts))) ≡ l.next + pairs_nodes (pairs (map pair_of l.parts));
}

abbrev pub invariant-number_givens-parts : goal.invariant-number_givens-parts
invariant-number_givens-parts l = record {
  done : givens (map given_of l.done ++ list_numbered given_numbered given_nodes (map given_of (drop l.part-index l.parts)) l.at) ≡
      givens_numbered (givens (map given_of l.parts)) l.next;
  count : l.at + givens_nodes (givens (map given_of (drop l.part-index l.parts))) ≡ l.next + givens_nodes (givens (map given_of l.parts));
}
