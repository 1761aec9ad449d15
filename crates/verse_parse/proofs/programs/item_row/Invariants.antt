use Rattle.std.proofs.Common.{◌≤◌, length, map}
use Rattle.verse_tree.specs.ItemView.{item_of}
use Rattle.verse_grammar.specs.Items.{ItemRow}
use Rattle.verse_grammar.specs.Symbols as rules_of
use Rattle.verse_grammar.specs.Loops.{Goes}
use Rattle.verse_parse.proofs.programs.item_row.Given as goal

abbrev pub invariant-items : goal.invariant-items
invariant-items l = record {
  spelled : ItemRow l.bytes l.start (map item_of l.items) l.rest;
  goes : Goes rules_of.items_tail l.toks l.rest;
  shorter : length l.rest ≤ length l.toks;
}

abbrev pub decreases-items : goal.decreases-items
decreases-items l = length l.rest
