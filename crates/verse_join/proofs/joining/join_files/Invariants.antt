use Rattle.std.proofs.Common.{◌≡◌, ◌+◌, ◌++◌, map, drop}
use Rattle.verse_tree.specs.Numbering.{items_numbered, items_nodes}
use Rattle.verse_tree.specs.ItemView.{item_of}
use Rattle.verse_join.proofs.joining.join_files.Given as goal
use Rattle.verse_join.specs.Joining.{joined}

-- what is done, and what is left from the next number on, are all
abbrev pub invariant-files : goal.invariant-files
invariant-files l = record {
  done : map item_of l.items ++ items_numbered (joined (drop l.file-index l.fn.files.items)) l.at ≡
      items_numbered (joined l.fn.files.items) 0;
  count : l.at + items_nodes (joined (drop l.file-index l.fn.files.items)) ≡ items_nodes (joined l.fn.files.items);
}
