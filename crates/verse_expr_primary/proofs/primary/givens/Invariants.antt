use Rattle.std.proofs.Common.{◌≤◌, length, map}
use Rattle.verse_tree.specs.View.{given_of}
use Rattle.verse_grammar.specs.Exprs.{GivenRow}
use Rattle.verse_grammar.specs.Symbols.{givens_tail}
use Rattle.verse_grammar.specs.Loops.{Goes}
use Rattle.verse_expr_primary.proofs.primary.givens.Given as goal

abbrev pub invariant-more : goal.invariant-more
invariant-more g l = record {
  row : GivenRow l.reader.bytes.now l.toks (map given_of l.parts) l.rest;
  goes : Goes givens_tail l.initial.rest l.rest;
  within : length l.rest ≤ length l.initial.rest;
}

abbrev pub decreases-more : goal.decreases-more
decreases-more g l = length l.rest
