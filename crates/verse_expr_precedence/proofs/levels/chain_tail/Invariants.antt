use Rattle.std.proofs.Common.{◌≤◌, length}
use Rattle.verse_tree.specs.View.{tree_of}
use Rattle.verse_grammar.specs.Exprs.{Chain}
use Rattle.verse_grammar.specs.Symbols.{chain_tail}
use Rattle.verse_grammar.specs.Loops.{Goes}
use Rattle.verse_expr_precedence.proofs.levels.chain_tail.Given as goal

abbrev pub invariant-operands : goal.invariant-operands
invariant-operands g l = record {
  chain : Chain l.reader.bytes.now l.level (tree_of l.fn.left) l.toks (tree_of l.tree) l.rest;
  goes : Goes (chain_tail l.level) l.toks l.rest;
  within : length l.rest ≤ length l.toks;
}

abbrev pub decreases-operands : goal.decreases-operands
decreases-operands g l = length l.rest
