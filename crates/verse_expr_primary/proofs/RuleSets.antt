-- The lemmas that the goals of a function want, by its name.
use Rattle.verse_grammar.proofs.Sticking.{sticks_primary_spawn_1, sticks_primary_spawn_2, sticks_primary_spawn_3, sticks_primary_map_1}
use Rattle.verse_grammar.proofs.Sticking.{sticks_primary_map_2, sticks_primary_round_1, sticks_primary_round_2, sticks_primary_event_1}
use Rattle.verse_grammar.proofs.Sticking.{sticks_primary_event_2, sticks_primary_sleep_1, sticks_primary_sleep_2, sticks_bracket_type_1}
use Rattle.verse_grammar.proofs.Sticking.{sticks_bracket_type_2, sticks_bracket_type_rest_other_1, sticks_bracket_type_rest_other_2}
use Rattle.verse_grammar.proofs.Sticking.{sticks_primary_other, sticks_primary_end, sticks_primary_name_1, sticks_primary_textopen_1}
use Rattle.verse_grammar.specs.Exprs.{mapping, no_pairs, some_pairs, bracket_type, no_bracket_type, name_alone, instance, no_givens}
use Rattle.verse_grammar.proofs.Eating.{eats_primary_map, eats_pairs_until_at, eats_primary_round, eats_round_rest_at}
use Rattle.verse_grammar.proofs.Eating.{eats_round_rest_other, eats_bracket_type, eats_bracket_type_rest_at, eats_bracket_type_rest_other}
use Rattle.verse_grammar.proofs.Eating.{eats_primary_name, eats_name_rest_at, eats_name_rest_other, eats_givens_until_at, eats_given}
use Rattle.verse_expr_primary.proofs.Parts.{pair_row_one, pairs_eaten, pairs_stuck_between, pairs_stuck_at_end, pair_by, eats_pair_by}
use Rattle.verse_expr_primary.proofs.Parts.{sticks_pair_by, sleep_reads, given_row_one, givens_stuck_at_end, holes_stuck_at_end}
use Rattle.verse_grammar.proofs.Going.{goes_start}
use Rattle.verse_grammar.proofs.StickingParts.{sticks_pairs_until_other_1, sticks_pair_1, sticks_pair_2, sticks_round_rest_at_1}
use Rattle.verse_grammar.proofs.StickingParts.{sticks_round_rest_other_1, sticks_duration_other, sticks_duration_end, sticks_name_rest_at_1}
use Rattle.verse_grammar.proofs.StickingParts.{sticks_givens_until_other_1, sticks_given_1, sticks_given_2, sticks_given_3}
use Rattle.verse_expr_primary.proofs.PrimaryParts.{round_reads, holes_begun, holes_last}
use Rattle.verse_expr_primary.specs.Rounds.{only_one, several}
use Rattle.verse_expr_primary.proofs.Repeats.{some_givens_by, givens_eaten_by}
use Rattle.verse_expr_primary.specs.Parts.{is_given}

pub ruleset of_spawn = (sticks_primary_spawn_1, sticks_primary_spawn_2, sticks_primary_spawn_3)

pub ruleset of_mapping = (mapping, eats_primary_map, sticks_primary_map_1, sticks_primary_map_2)

pub ruleset of_pairs_until = (no_pairs, eats_pairs_until_at)

pub ruleset of_pairs = (
  pair_row_one,
  some_pairs,
  goes_start,
  pairs_eaten,
  pairs_stuck_between,
  pairs_stuck_at_end,
  sticks_pairs_until_other_1,
)

pub ruleset of_pair = (pair_by, eats_pair_by, sticks_pair_1, sticks_pair_2, sticks_pair_by)

pub ruleset of_round = (round_reads, eats_primary_round, sticks_primary_round_1, sticks_primary_round_2)

pub ruleset of_others = (only_one, several, eats_round_rest_at, eats_round_rest_other, sticks_round_rest_at_1, sticks_round_rest_other_1)

pub ruleset of_event = (sticks_primary_event_1, sticks_primary_event_2)

pub ruleset of_sleep = (sleep_reads, sticks_primary_sleep_1, sticks_primary_sleep_2, sticks_duration_other, sticks_duration_end)

pub ruleset of_bracket_type = (
  bracket_type,
  no_bracket_type,
  eats_bracket_type,
  eats_bracket_type_rest_at,
  eats_bracket_type_rest_other,
  sticks_bracket_type_1,
  sticks_bracket_type_2,
  sticks_bracket_type_rest_other_1,
  sticks_bracket_type_rest_other_2,
)

pub ruleset of_primary = (sticks_primary_other, sticks_primary_end)

pub ruleset of_name_from = (
  name_alone,
  instance,
  eats_primary_name,
  eats_name_rest_at,
  eats_name_rest_other,
  sticks_primary_name_1,
  sticks_name_rest_at_1,
)

pub ruleset of_givens_until = (no_givens, eats_givens_until_at)

pub ruleset of_givens = (given_row_one, some_givens_by, goes_start, givens_eaten_by, givens_stuck_at_end, sticks_givens_until_other_1)

pub ruleset of_given = (is_given, eats_given, sticks_given_1, sticks_given_2, sticks_given_3)

pub ruleset of_holes = (holes_begun, holes_last, goes_start, holes_stuck_at_end, sticks_primary_textopen_1)
