use Rattle.std.proofs.Common.{◌≤◌, length, map}
use Rattle.verse_lex.specs.declared.tokens.Mark.TheVariants as m
use Rattle.verse_tree.specs.View.{tree_of}
use Rattle.verse_grammar.specs.Toks.{mark}
use Rattle.verse_grammar.specs.Exprs.{ClauseRow}
use Rattle.verse_grammar.specs.Symbols.{row_tail}
use Rattle.verse_grammar.specs.Loops.{Goes}
use Rattle.verse_grammar.specs.declared.phrases.Phrase.TheVariants as p
use Rattle.verse_expr_keywords.proofs.forms.clauses.Given as goal

abbrev pub invariant-more : goal.invariant-more
invariant-more g l = record {
  row : ClauseRow l.reader.bytes.now l.toks (map tree_of l.parts) l.rest;
  goes : Goes (row_tail p.Clause (mark m.Comma)) l.initial.rest l.rest;
  within : length l.rest ≤ length l.initial.rest;
}

abbrev pub decreases-more : goal.decreases-more
decreases-more g l = length l.rest
