-- The lemmas that the goals of a function want, by its name.
use Rattle.verse_grammar.specs.Exprs.{for_form, first_generator, clauses}
use Rattle.verse_grammar.proofs.Eating.{eats_primary_for}
use Rattle.verse_grammar.proofs.Sticking.{sticks_primary_for_1, sticks_primary_for_2, sticks_primary_for_3, sticks_primary_case_1}
use Rattle.verse_grammar.proofs.Going.{goes_start}
use Rattle.verse_expr_keywords.proofs.Clauses.{clauses_eaten, clauses_stuck_between, clauses_stuck_at_end, case_stuck_behind}
use Rattle.verse_grammar.proofs.StickingParts.{sticks_clauses_1, sticks_case_rest_1, sticks_case_rest_2}
use Rattle.verse_expr_keywords.proofs.WordForms.{list_reads, list_eaten, list_stuck_before, list_stuck_inside, body_reads, body_eaten}
use Rattle.verse_expr_keywords.proofs.WordForms.{body_stuck}

pub ruleset of_for_form = (for_form, eats_primary_for, sticks_primary_for_1, sticks_primary_for_2, sticks_primary_for_3)

pub ruleset of_clauses = (
  first_generator,
  clauses,
  goes_start,
  clauses_eaten,
  clauses_stuck_between,
  clauses_stuck_at_end,
  sticks_clauses_1,
)

pub ruleset of_cases = (sticks_primary_case_1, sticks_case_rest_1, sticks_case_rest_2, case_stuck_behind)

pub ruleset of_list_form = (list_reads, list_eaten, list_stuck_before, list_stuck_inside)

pub ruleset of_body_form = (body_reads, body_eaten, body_stuck)
