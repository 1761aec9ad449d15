use Rattle.std.proofs.Common.{◌≤◌, length, map}
use Rattle.verse_tree.specs.ItemView.{member_of}
use Rattle.verse_grammar.specs.Items.{MemberRow}
use Rattle.verse_grammar.specs.Symbols as rules_of
use Rattle.verse_grammar.specs.Loops.{Goes}
use Rattle.verse_parse.proofs.classes.member_row.Given as goal

abbrev pub invariant-members : goal.invariant-members
invariant-members l = record {
  spelled : MemberRow l.bytes l.start (map member_of l.members) l.rest;
  goes : Goes rules_of.members_tail l.toks l.rest;
  shorter : length l.rest ≤ length l.toks;
}

abbrev pub decreases-members : goal.decreases-members
decreases-members l = length l.rest
