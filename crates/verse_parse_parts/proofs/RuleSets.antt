-- The lemmas that the goals of a function want, by its name.
use Rattle.verse_parse_parts.specs.Rests.{rest_of_enum, signature}
use Rattle.verse_grammar.proofs.EatingItems.{eats_enum_rest, eats_values_until_at, eats_values_until_other, eats_values_tail_other}
use Rattle.verse_grammar.proofs.EatingItems.{eats_param, eats_params_until_at, eats_params_until_other, eats_params_tail_other}
use Rattle.verse_grammar.proofs.EatingItems.{eats_specs_other, eats_dotted, eats_dots_tail_other, eats_path_tail_other}
use Rattle.verse_grammar.proofs.StickingItems.{sticks_enum_rest_1, sticks_enum_rest_2, sticks_values_until_other_1}
use Rattle.verse_grammar.proofs.StickingItems.{sticks_values_until_other_2, sticks_values_until_other_3, sticks_param_1, sticks_param_2}
use Rattle.verse_grammar.proofs.StickingItems.{sticks_param_3, sticks_params_until_other_1, sticks_params_until_other_2}
use Rattle.verse_grammar.proofs.StickingItems.{sticks_params_until_other_3, sticks_dotted_1, sticks_dotted_2}
use Rattle.verse_grammar.specs.Items.{no_values, some_values, one_value, more_values, param, no_params, some_params, one_param, more_params}
use Rattle.verse_grammar.specs.Items.{no_specs, more_specs, one_name, more_names, more_parts}
use Rattle.verse_grammar.proofs.GoingItems.{goes_values_tail_at, stuck_values_tail_at_1, goes_params_tail_at, stuck_params_tail_at_1}
use Rattle.verse_grammar.proofs.GoingItems.{goes_specs_at, stuck_specs_at_1, stuck_specs_at_2, goes_dots_tail_at, stuck_dots_tail_at_1}
use Rattle.verse_grammar.proofs.GoingItems.{goes_path_tail_at, stuck_path_tail_at_1}
use Rattle.verse_grammar.proofs.Going.{goes_start, goes_eats, goes_sticks}
use Rattle.verse_parse_parts.proofs.Signatures.{fun_whole, eats_fun, sticks_fun_1, sticks_fun_2, sticks_fun_3, eats_signature}
use Rattle.verse_parse_parts.proofs.Signatures.{sticks_signature_1, sticks_signature_2, sticks_signature_3, sticks_signature_4}
use Rattle.verse_parse_parts.proofs.Signatures.{sticks_signature_5}

pub ruleset of_enum_rest = (rest_of_enum, eats_enum_rest, sticks_enum_rest_1, sticks_enum_rest_2)

pub ruleset of_values = (
  no_values,
  some_values,
  eats_values_until_at,
  eats_values_until_other,
  sticks_values_until_other_1,
  sticks_values_until_other_2,
  sticks_values_until_other_3,
)

pub ruleset of_value_row = (
  one_value,
  more_values,
  eats_values_tail_other,
  goes_values_tail_at,
  stuck_values_tail_at_1,
  goes_start,
  goes_eats,
)

pub ruleset of_param = (param, eats_param, sticks_param_1, sticks_param_2, sticks_param_3)

pub ruleset of_params = (
  no_params,
  some_params,
  eats_params_until_at,
  eats_params_until_other,
  sticks_params_until_other_1,
  sticks_params_until_other_2,
  sticks_params_until_other_3,
)

pub ruleset of_param_row = (
  one_param,
  more_params,
  eats_params_tail_other,
  goes_params_tail_at,
  stuck_params_tail_at_1,
  goes_start,
  goes_eats,
  goes_sticks,
)

pub ruleset of_fun_rest = (fun_whole, eats_fun, sticks_fun_1, sticks_fun_2, sticks_fun_3)

pub ruleset of_signature = (
  signature,
  eats_signature,
  sticks_signature_1,
  sticks_signature_2,
  sticks_signature_3,
  sticks_signature_4,
  sticks_signature_5,
)

pub ruleset of_specifiers = (
  no_specs,
  more_specs,
  eats_specs_other,
  goes_specs_at,
  stuck_specs_at_1,
  stuck_specs_at_2,
  goes_start,
  goes_eats,
)

pub ruleset of_dotted = (eats_dotted, sticks_dotted_1, sticks_dotted_2)

pub ruleset of_dots = (one_name, more_names, eats_dots_tail_other, goes_dots_tail_at, stuck_dots_tail_at_1, goes_start, goes_eats)

pub ruleset of_path = (more_parts, eats_path_tail_other, goes_path_tail_at, stuck_path_tail_at_1, goes_start, goes_eats)
