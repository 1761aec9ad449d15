use Rattle.std.proofs.Common.{◌≤◌, length, map}
use Rattle.verse_tree.specs.View.{pair_of}
use Rattle.verse_grammar.specs.Exprs.{PairRow}
use Rattle.verse_grammar.specs.Symbols.{pairs_tail}
use Rattle.verse_grammar.specs.Loops.{Goes}
use Rattle.verse_expr_primary.proofs.braces.pairs.Given as goal

abbrev pub invariant-more : goal.invariant-more
invariant-more g l = record {
  row : PairRow l.reader.bytes.now l.toks (map pair_of l.parts) l.rest;
  goes : Goes pairs_tail l.initial.rest l.rest;
  within : length l.rest ≤ length l.initial.rest;
}

abbrev pub decreases-more : goal.decreases-more
decreases-more g l = length l.rest
