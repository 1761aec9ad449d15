use Rattle.std.proofs.Common.{◌≤◌, ◌∷◌, length}
use Rattle.verse_grammar.specs.Items.{Dotted}
use Rattle.verse_grammar.specs.Symbols as rules_of
use Rattle.verse_grammar.specs.Loops.{Goes}
use Rattle.verse_parse_parts.proofs.names.dots.Given as goal

abbrev pub invariant-names : goal.invariant-names
invariant-names l = record {
  spelled : Dotted l.bytes (l.fn.tok ∷ l.toks) l.names l.rest;
  goes : Goes rules_of.dots_tail l.toks l.rest;
  shorter : length l.rest ≤ length l.toks;
}

abbrev pub decreases-names : goal.decreases-names
decreases-names l = length l.rest
