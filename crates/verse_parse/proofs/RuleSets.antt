-- The lemmas that the goals of a function want, by its name.
use Rattle.verse_parse.proofs.Stopping.{left_stops_program, left_within, program_once}
use Rattle.verse_parse.proofs.Few.{few_items}
use Rattle.verse_grammar.specs.Items.{no_items, some_items, one_item, more_items}
use Rattle.verse_grammar.proofs.EatingItems.{eats_program_end, eats_items_tail_other}
use Rattle.verse_parse.proofs.Spelled.{program_eats, program_sticks_1, program_sticks_2}
use Rattle.verse_grammar.proofs.GoingItems.{goes_items_tail_at, stuck_items_tail_at_1}
use Rattle.verse_grammar.proofs.Going.{goes_start, goes_eats}

pub ruleset of_parse = (left_stops_program, left_within, program_once, few_items)

pub ruleset of_program = (no_items, some_items, eats_program_end, program_eats, program_sticks_1, program_sticks_2)

pub ruleset of_item_row = (one_item, more_items, eats_items_tail_other, goes_items_tail_at, stuck_items_tail_at_1, goes_start, goes_eats)
