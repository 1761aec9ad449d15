use Rattle.std.proofs.Common.{◌≤◌, length, map}
use Rattle.verse_tree.specs.View.{tree_of}
use Rattle.verse_grammar.specs.Exprs.{Row}
use Rattle.verse_grammar.specs.Starts.{kind_of}
use Rattle.verse_grammar.specs.Symbols.{row_tail}
use Rattle.verse_grammar.specs.Loops.{Goes}
use Rattle.verse_expr_reader.proofs.nesting.Reader.closed.Given as goal

abbrev pub invariant-more : goal.invariant-more
invariant-more g l = record {
  row : Row l.self.bytes.now l.what (kind_of l.separator) l.toks (map tree_of l.exprs) l.rest;
  goes : Goes (row_tail l.what (kind_of l.separator)) l.initial.rest l.rest;
  within : length l.rest ≤ length l.initial.rest;
}

abbrev pub decreases-more : goal.decreases-more
decreases-more g l = length l.rest
