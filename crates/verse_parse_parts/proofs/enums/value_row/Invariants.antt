use Rattle.std.proofs.Common.{◌≤◌, ◌∷◌, length}
use Rattle.verse_grammar.specs.Items.{ValueRow}
use Rattle.verse_grammar.specs.Symbols as rules_of
use Rattle.verse_grammar.specs.Loops.{Goes}
use Rattle.verse_parse_parts.proofs.enums.value_row.Given as goal

abbrev pub invariant-values : goal.invariant-values
invariant-values l = record {
  spelled : ValueRow l.bytes (l.fn.tok ∷ l.toks) l.values l.rest;
  goes : Goes rules_of.values_tail l.toks l.rest;
  shorter : length l.rest ≤ length l.toks;
}

abbrev pub decreases-values : goal.decreases-values
decreases-values l = length l.rest
