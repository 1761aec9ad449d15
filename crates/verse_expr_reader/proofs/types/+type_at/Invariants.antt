use Rattle.std.proofs.Common.{◌≤◌, ◌+◌, ◌*◌, length, map}
use Rattle.verse_tree.specs.View.{written_of}
use Rattle.verse_grammar.specs.Types.{AreTypes}
use Rattle.verse_grammar.specs.Symbols.{types_tail}
use Rattle.verse_grammar.specs.Loops.{Goes}
use Rattle.verse_expr_reader.proofs.types.+type_at.Given as goal

abbrev pub decreases-type_at : goal.decreases-type_at
decreases-type_at l = 3 * length l.toks.now

abbrev pub decreases-option_type : goal.decreases-option_type
decreases-option_type l = 3 * length l.toks.now + 1

abbrev pub decreases-bracket_type : goal.decreases-bracket_type
decreases-bracket_type l = 3 * length l.toks.now + 2

abbrev pub decreases-map_type : goal.decreases-map_type
decreases-map_type l = 3 * length l.toks.now + 1

abbrev pub decreases-tuple_type : goal.decreases-tuple_type
decreases-tuple_type l = 3 * length l.toks.now + 1

abbrev pub decreases-types : goal.decreases-types
decreases-types l = 3 * length l.toks.now + 1

abbrev pub decreases-task_type : goal.decreases-task_type
decreases-task_type l = 3 * length l.toks.now + 1

abbrev pub decreases-event_type : goal.decreases-event_type
decreases-event_type l = 3 * length l.toks.now + 1

abbrev pub invariant-types-more : goal.invariant-types-more
invariant-types-more l = record {
  row : AreTypes l.bytes l.toks (map written_of l.parts) l.rest;
  goes : Goes types_tail l.initial.rest l.rest;
  within : length l.rest ≤ length l.initial.rest;
}

abbrev pub decreases-types-more : goal.decreases-types-more
decreases-types-more l = length l.rest
