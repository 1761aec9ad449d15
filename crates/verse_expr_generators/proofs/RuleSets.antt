-- The lemmas that the goals of a function want, by its name.
use Rattle.verse_grammar.proofs.Eating.{eats_generator, eats_generator_rest_at1, eats_generator_rest_at2, eats_entries_rest}
use Rattle.verse_grammar.proofs.Eating.{eats_clause_set, eats_clause_return, eats_clause_break, eats_clause_other, eats_clause_value_at1}
use Rattle.verse_grammar.proofs.Eating.{eats_clause_value_other, eats_range_rest_at, eats_range_rest_other}
use Rattle.verse_grammar.proofs.Sticking.{sticks_generator_1, sticks_generator_2, sticks_clause_var, sticks_clause_set_1}
use Rattle.verse_grammar.proofs.Sticking.{sticks_clause_return_1, sticks_clause_other_1}
use Rattle.verse_grammar.proofs.StickingParts.{sticks_generator_rest_at1_1, sticks_generator_rest_at2_1, sticks_generator_rest_other}
use Rattle.verse_grammar.proofs.StickingParts.{sticks_entries_rest_2, sticks_entries_rest_3, sticks_generator_rest_at3_1}
use Rattle.verse_grammar.proofs.StickingParts.{sticks_clause_value_at1_1, sticks_clause_value_other_1, sticks_clause_value_other_2}
use Rattle.verse_grammar.proofs.StickingParts.{sticks_range_rest_at_1, sticks_range_rest_other_1, sticks_range_rest_other_2}
use Rattle.verse_grammar.proofs.StickingParts.{sticks_range_rest_other_3}
use Rattle.verse_grammar.specs.Exprs.{entries, clause_control, clause_expr, clause_generator, clause_definition, expr_if, expr_or, range}
use Rattle.verse_expr_generators.proofs.Clausing.{range_by, eats_range_by, sticks_range_by, eats_ends, sticks_ends_1, sticks_ends_2}
use Rattle.verse_expr_generators.proofs.Clausing.{eats_clause_elements, eats_clause_entries, eats_clause_defined, sticks_clause_elements}
use Rattle.verse_expr_generators.proofs.Clausing.{sticks_clause_entries, sticks_clause_defined, eats_value_not, sticks_value_not}
use Rattle.verse_expr_generators.specs.Behind.{ends, behind}
use Rattle.verse_expr_control.proofs.Starting.{left_at, name_start}
use Rattle.verse_grammar.proofs.ByExpr.{clause_by_expr, clause_stuck_by_expr}
use Rattle.verse_expr_generators.proofs.Sums.{whole}

pub ruleset of_generator = (eats_generator, sticks_generator_1, sticks_generator_2)

pub ruleset of_generated = (
  eats_generator_rest_at1,
  eats_generator_rest_at2,
  sticks_generator_rest_at1_1,
  sticks_generator_rest_at2_1,
  sticks_generator_rest_other,
)

pub ruleset of_entries_of = (entries, eats_entries_rest, sticks_entries_rest_2, sticks_entries_rest_3)

pub ruleset of_range = (range_by, eats_range_by, sticks_range_by, sticks_generator_rest_at3_1)

pub ruleset of_highest = (ends, eats_ends, sticks_ends_1, sticks_ends_2)

pub ruleset of_clause = (
  clause_control,
  clause_expr,
  left_at,
  eats_clause_set,
  eats_clause_return,
  eats_clause_break,
  eats_clause_other,
  sticks_clause_var,
  sticks_clause_set_1,
  sticks_clause_return_1,
  sticks_clause_other_1,
)

pub ruleset of_named_clause = (
  clause_expr,
  clause_generator,
  clause_by_expr,
  clause_stuck_by_expr,
  eats_clause_elements,
  eats_clause_entries,
  eats_clause_defined,
  sticks_clause_elements,
  sticks_clause_entries,
  sticks_clause_defined,
  name_start,
)

pub ruleset of_defined_clause = (clause_definition, expr_if, eats_clause_value_at1, sticks_clause_value_at1_1)

pub ruleset of_denied_clause = (clause_definition, expr_or, eats_value_not, sticks_value_not)

pub ruleset of_sum_clause = (
  range,
  clause_generator,
  clause_definition,
  whole,
  eats_clause_value_other,
  eats_range_rest_at,
  sticks_clause_value_other_1,
  sticks_clause_value_other_2,
  sticks_range_rest_at_1,
)

pub ruleset of_behind_sum = (behind, eats_range_rest_other, sticks_range_rest_other_1, sticks_range_rest_other_2, sticks_range_rest_other_3)
