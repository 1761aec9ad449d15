use Rattle.std.proofs.Common.{◌≤◌, length, map}
use Rattle.verse_tree.specs.ItemView.{param_of}
use Rattle.verse_grammar.specs.Items.{ParamRow}
use Rattle.verse_grammar.specs.Symbols as rules_of
use Rattle.verse_grammar.specs.Loops.{Goes}
use Rattle.verse_parse_parts.proofs.functions.param_row.Given as goal

abbrev pub invariant-params : goal.invariant-params
invariant-params l = record {
  spelled : ParamRow l.bytes l.start (map param_of l.params) l.rest;
  goes : Goes rules_of.params_tail l.toks l.rest;
  shorter : length l.rest ≤ length l.toks;
}

abbrev pub decreases-params : goal.decreases-params
decreases-params l = length l.rest
