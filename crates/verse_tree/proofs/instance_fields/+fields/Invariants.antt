use Rattle.std.proofs.Common.{◌≡◌, ◌+◌, ◌≤◌, min, map, drop}
use Rattle.verse_tree.specs.View.{tree_of, hole_of, pair_of, given_of, trees, holes, pairs, givens}
use Rattle.verse_tree.specs.Sizes.{fields_at, trees_fields, holes_fields, pairs_fields, givens_fields}
use Rattle.verse_tree.proofs.instance_fields.+fields.Given as goal

abbrev pub invariant-fields_in_all-parts : goal.invariant-fields_in_all-parts
invariant-fields_in_all-parts l = record {
  sum : min (l.total + trees_fields (fields_at l.names) (trees (map tree_of (drop l.part-index l.parts)))) 18446744073709551615 ≡
      min (trees_fields (fields_at l.names) (trees (map tree_of l.parts))) 18446744073709551615;
  fits : l.total ≤ 18446744073709551615;
}

abbrev pub invariant-fields_in_holes-parts : goal.invariant-fields_in_holes-parts
invariant-fields_in_holes-parts l = record {
  sum : min (l.total + holes_fields (fields_at l.names) (holes (map hole_of (drop l.part-index l.parts)))) 18446744073709551615 ≡
      min (holes_fields (fields_at l.names) (holes (map hole_of l.parts))) 18446744073709551615;
  fits : l.total ≤ 18446744073709551615;
}

abbrev pub invariant-fields_in_pairs-parts : goal.invariant-fields_in_pairs-parts
invariant-fields_in_pairs-parts l = record {
  sum : min (l.total + pairs_fields (fields_at l.names) (pairs (map pair_of (drop l.part-index l.parts)))) 18446744073709551615 ≡
      min (pairs_fields (fields_at l.names) (pairs (map pair_of l.parts))) 18446744073709551615;
  fits : l.total ≤ 18446744073709551615;
}

abbrev pub invariant-fields_in_givens-parts : goal.invariant-fields_in_givens-parts
invariant-fields_in_givens-parts l = record {
  sum : min (l.total + givens_fields (fields_at l.names) (givens (map given_of (drop l.part-index l.parts)))) 18446744073709551615 ≡
      min (givens_fields (fields_at l.names) (givens (map given_of l.parts))) 18446744073709551615;
  fits : l.total ≤ 18446744073709551615;
}
