use Rattle.std.proofs.Common.{◌≤◌, length}
use Rattle.verse_tree.specs.View.{tree_of}
use Rattle.verse_grammar.specs.Exprs.{Postfixes}
use Rattle.verse_grammar.specs.Symbols.{postfix_tail}
use Rattle.verse_grammar.specs.Loops.{Goes}
use Rattle.verse_expr_precedence.proofs.postfixes.postfix_tail.Given as goal

abbrev pub invariant-postfixes : goal.invariant-postfixes
invariant-postfixes g l = record {
  postfixes : Postfixes l.reader.bytes.now (tree_of l.fn.object) l.toks (tree_of l.tree) l.rest;
  goes : Goes postfix_tail l.toks l.rest;
  within : length l.rest ≤ length l.toks;
}

abbrev pub decreases-postfixes : goal.decreases-postfixes
decreases-postfixes g l = length l.rest
