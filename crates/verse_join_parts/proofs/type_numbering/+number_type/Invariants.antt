use Rattle.std.proofs.Common.{◌≡◌, ◌+◌, ◌++◌, map, drop}
use Rattle.verse_tree.specs.Numbering.{written_numbered, written_nodes, writtens_numbered, writtens_nodes, list_numbered}
use Rattle.verse_tree.specs.View.{written_of, writtens}
use Rattle.verse_join_parts.proofs.type_numbering.+number_type.Given as goal

-- what is done, and what is left from the next number on, are all
abbrev pub invariant-number_types-parts : goal.invariant-number_types-parts
invariant-number_types-parts l = record {
  done : writtens (map written_of l.done ++
      list_numbered written_numbered written_nodes (map written_of (drop l.part-index l.parts)) l.at) ≡
      writtens_numbered (writtens (map written_of l.parts)) l.next;
  count : l.at + writtens_nodes (writtens (map written_of (drop l.part-index l.parts))) ≡
      l.next + writtens_nodes (writtens (map written_of l.parts));
}
