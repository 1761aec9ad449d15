use Rattle.std.proofs.Common.{◌≡◌, ◌+◌, ◌≤◌, min, map, drop}
use Rattle.verse_tree.specs.ItemView.{member_of}
use Rattle.verse_tree.specs.Numbering.{list_nodes}
use Rattle.verse_tree.specs.Sizes.{fields_at, member_fields}
use Rattle.verse_tree.proofs.sizes.fields_in_members.Given as goal

abbrev pub invariant-members : goal.invariant-members
invariant-members l = record {
  sum : min (l.total + list_nodes (member_fields (fields_at l.names)) (map member_of (drop l.member-index l.members)))
      18446744073709551615 ≡ min (list_nodes (member_fields (fields_at l.names)) (map member_of l.members)) 18446744073709551615;
  fits : l.total ≤ 18446744073709551615;
}
