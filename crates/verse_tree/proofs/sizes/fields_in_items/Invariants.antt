use Rattle.std.proofs.Common.{◌≡◌, ◌+◌, ◌≤◌, min, map, drop}
use Rattle.verse_tree.specs.ItemView.{item_of}
use Rattle.verse_tree.specs.Numbering.{list_nodes}
use Rattle.verse_tree.specs.Sizes.{fields_at, item_fields}
use Rattle.verse_tree.proofs.sizes.fields_in_items.Given as goal

abbrev pub invariant-items : goal.invariant-items
invariant-items l = record {
  sum : min (l.total + list_nodes (item_fields (fields_at l.names)) (map item_of (drop l.item-index l.items))) 18446744073709551615 ≡
      min (list_nodes (item_fields (fields_at l.names)) (map item_of l.items)) 18446744073709551615;
  fits : l.total ≤ 18446744073709551615;
}
