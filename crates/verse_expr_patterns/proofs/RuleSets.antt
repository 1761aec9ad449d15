-- The lemmas that the goals of a function want, by its name.
use Rattle.verse_grammar.proofs.Sticking.{sticks_pattern_other, sticks_pattern_end, sticks_pattern_minus_1, sticks_pattern_name_1}
use Rattle.verse_grammar.proofs.Sticking.{sticks_pattern_name_2, sticks_arm_1}
use Rattle.verse_grammar.specs.Exprs.{integer_pattern, character_pattern, text_pattern, truth_pattern, falsehood_pattern, any_pattern}
use Rattle.verse_grammar.specs.Exprs.{minus_pattern, enum_pattern}
use Rattle.verse_grammar.proofs.Eating.{eats_pattern_int, eats_pattern_char, eats_pattern_text, eats_pattern_true, eats_pattern_false}
use Rattle.verse_grammar.proofs.Eating.{eats_pattern_wild, eats_pattern_minus, eats_an_int_at, eats_pattern_name}
use Rattle.verse_grammar.proofs.StickingParts.{sticks_an_int_other, sticks_an_int_end}
use Rattle.verse_expr_patterns.proofs.ArmRests.{arm_joined, eats_arm_joined, sticks_arm_joined, eats_arm_rest, sticks_arm_rest_1}
use Rattle.verse_expr_patterns.proofs.ArmRests.{sticks_arm_rest_2}
use Rattle.verse_expr_patterns.specs.ArmRests.{behind_arrow}

pub ruleset of_pattern = (sticks_pattern_other, sticks_pattern_end)

pub ruleset of_pattern_from = (
  integer_pattern,
  character_pattern,
  text_pattern,
  truth_pattern,
  falsehood_pattern,
  any_pattern,
  eats_pattern_int,
  eats_pattern_char,
  eats_pattern_text,
  eats_pattern_true,
  eats_pattern_false,
  eats_pattern_wild,
)

pub ruleset of_below_zero = (
  minus_pattern,
  eats_pattern_minus,
  eats_an_int_at,
  sticks_pattern_minus_1,
  sticks_an_int_other,
  sticks_an_int_end,
)

pub ruleset of_enum_value = (enum_pattern, eats_pattern_name, sticks_pattern_name_1, sticks_pattern_name_2)

pub ruleset of_arm_placed = (arm_joined, eats_arm_joined, sticks_arm_joined, sticks_arm_1)

pub ruleset of_arm_body = (behind_arrow, eats_arm_rest, sticks_arm_rest_1, sticks_arm_rest_2)
