use Rattle.std.proofs.Common.{◌≤◌, length, map}
use Rattle.verse_tree.specs.ItemView.{spec_of}
use Rattle.verse_grammar.specs.Items.{Specs}
use Rattle.verse_grammar.specs.Symbols as rules_of
use Rattle.verse_grammar.specs.Loops.{Goes}
use Rattle.verse_parse_parts.proofs.names.specifiers.Given as goal

abbrev pub invariant-specs : goal.invariant-specs
invariant-specs l = record {
  spelled : Specs l.bytes l.toks (map spec_of l.specs) l.rest;
  goes : Goes rules_of.specs l.toks l.rest;
  shorter : length l.rest ≤ length l.toks;
}

abbrev pub decreases-specs : goal.decreases-specs
decreases-specs l = length l.rest
