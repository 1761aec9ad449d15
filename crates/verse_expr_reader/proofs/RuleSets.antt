-- The lemmas that the goals of a function want, by its name.
use Rattle.verse_grammar.specs.Exprs.{row_one, row_more, closed, until_none, until_some}
use Rattle.verse_grammar.proofs.Going.{goes_start, goes_row_tail_at, goes_types_tail_at}
use Rattle.verse_expr_reader.proofs.Rows.{closed_eaten, closed_stuck_between, closed_stuck_at_end}
use Rattle.verse_grammar.proofs.StickingParts.{sticks_closed_1, sticks_until_other_1}
use Rattle.verse_grammar.proofs.Eating.{eats_until_at, eats_until_other, eats_a_type_int, eats_a_type_logic, eats_a_type_char}
use Rattle.verse_grammar.proofs.Eating.{eats_a_type_string, eats_a_type_void, eats_a_type_name, eats_a_type_option, eats_a_type_bracket}
use Rattle.verse_grammar.proofs.Eating.{eats_bracket_rest_at, eats_bracket_rest_other, eats_a_type_tuple, eats_tuple_rest, eats_a_type_task}
use Rattle.verse_grammar.proofs.Eating.{eats_a_type_event, eats_bracket_type, eats_bracket_type_rest_at, eats_bracket_type_rest_other}
use Rattle.verse_grammar.proofs.Fixing.{fixed_kind}
use Rattle.verse_expr_reader.proofs.Taking.{other_ahead, none_ahead}
use Rattle.verse_grammar.specs.Types.{type_int, type_logic, type_char, type_string, type_void, type_name, type_option, type_array, type_map}
use Rattle.verse_grammar.specs.Types.{type_tuple, one_type, more_types, type_task, type_event, type_bare_event}
use Rattle.verse_grammar.proofs.Sticking.{sticks_a_type_other, sticks_a_type_end, sticks_a_type_option_1, sticks_a_type_bracket_1}
use Rattle.verse_grammar.proofs.Sticking.{sticks_bracket_rest_at_1, sticks_bracket_rest_other_1, sticks_bracket_rest_other_3}
use Rattle.verse_grammar.proofs.Sticking.{sticks_a_type_tuple_1, sticks_tuple_rest_1, sticks_tuple_rest_2, sticks_tuple_rest_3}
use Rattle.verse_grammar.proofs.Sticking.{sticks_tuple_rest_4, sticks_tuple_rest_5, sticks_types_1, sticks_a_type_task_1}
use Rattle.verse_grammar.proofs.Sticking.{sticks_a_type_task_2, sticks_a_type_task_3, sticks_a_type_event_1, sticks_bracket_type_1}
use Rattle.verse_grammar.proofs.Sticking.{sticks_bracket_type_2, sticks_bracket_type_rest_other_1, sticks_bracket_type_rest_other_2}
use Rattle.verse_expr_reader.proofs.TypeRows.{map_missing, types_eaten, types_stuck}

pub ruleset of_closed = (
  row_one,
  row_more,
  closed,
  goes_start,
  goes_row_tail_at,
  closed_eaten,
  closed_stuck_between,
  closed_stuck_at_end,
  sticks_closed_1,
)

pub ruleset of_until = (until_none, until_some, eats_until_at, eats_until_other, sticks_until_other_1)

pub ruleset of_take = (fixed_kind, other_ahead, none_ahead)

pub ruleset of_type_at = (
  type_int,
  type_logic,
  type_char,
  type_string,
  type_void,
  type_name,
  eats_a_type_int,
  eats_a_type_logic,
  eats_a_type_char,
  eats_a_type_string,
  eats_a_type_void,
  eats_a_type_name,
  sticks_a_type_other,
  sticks_a_type_end,
)

pub ruleset of_option_type = (type_option, eats_a_type_option, sticks_a_type_option_1)

pub ruleset of_bracket_type = (type_array, eats_a_type_bracket, sticks_a_type_bracket_1, eats_bracket_rest_at, sticks_bracket_rest_at_1)

pub ruleset of_map_type = (
  type_map,
  eats_a_type_bracket,
  sticks_a_type_bracket_1,
  eats_bracket_rest_other,
  sticks_bracket_rest_other_1,
  map_missing,
  sticks_bracket_rest_other_3,
)

pub ruleset of_tuple_type = (
  type_tuple,
  eats_a_type_tuple,
  sticks_a_type_tuple_1,
  eats_tuple_rest,
  sticks_tuple_rest_1,
  sticks_tuple_rest_2,
  sticks_tuple_rest_3,
  sticks_tuple_rest_4,
  sticks_tuple_rest_5,
)

pub ruleset of_types = (one_type, more_types, goes_start, goes_types_tail_at, sticks_types_1, types_eaten, types_stuck)

pub ruleset of_task_type = (type_task, eats_a_type_task, sticks_a_type_task_1, sticks_a_type_task_2, sticks_a_type_task_3)

pub ruleset of_event_type = (
  type_event,
  type_bare_event,
  eats_a_type_event,
  sticks_a_type_event_1,
  eats_bracket_type,
  sticks_bracket_type_1,
  sticks_bracket_type_2,
  eats_bracket_type_rest_at,
  eats_bracket_type_rest_other,
  sticks_bracket_type_rest_other_1,
  sticks_bracket_type_rest_other_2,
)
