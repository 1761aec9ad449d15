use Rattle.std.proofs.Common.{◌≤◌, length}
use Rattle.verse_grammar.specs.Items.{Path}
use Rattle.verse_grammar.specs.Symbols as rules_of
use Rattle.verse_grammar.specs.Loops.{Goes}
use Rattle.verse_parse_parts.proofs.names.path.Given as goal

abbrev pub invariant-parts : goal.invariant-parts
invariant-parts l = record {
  spelled : Path l.bytes l.start l.parts l.rest;
  goes : Goes rules_of.path_tail l.toks l.rest;
  shorter : length l.rest ≤ length l.toks;
}

abbrev pub decreases-parts : goal.decreases-parts
decreases-parts l = length l.rest
