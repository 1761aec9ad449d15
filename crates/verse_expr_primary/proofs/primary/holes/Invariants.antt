use Rattle.std.proofs.Common.{◌≤◌, length, map}
use Rattle.verse_tree.specs.View.{hole_of, tree_of}
use Rattle.verse_grammar.specs.Symbols.{hole_rest}
use Rattle.verse_grammar.specs.Loops.{Goes}
use Rattle.verse_expr_primary.proofs.primary.holes.Given as goal
use Rattle.verse_expr_primary.specs.HoleReads.{HoleRead}

abbrev pub invariant-more : goal.invariant-more
invariant-more g l = record {
  row : HoleRead l.reader.bytes.now l.toks (map hole_of l.parts) (tree_of l.value) l.rest;
  goes : Goes hole_rest l.initial.rest l.rest;
  within : length l.rest ≤ length l.initial.rest;
}

abbrev pub decreases-more : goal.decreases-more
decreases-more g l = length l.rest
