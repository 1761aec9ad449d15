-- The lemmas that the goals of a function want, by its name.
use Rattle.verse_grammar.specs.Exprs.{expr_if, expr_or, if_else, if_alone, taken_then, taken_block, returned, returned_unit}
use Rattle.verse_grammar.proofs.Eating.{eats_expr_at, eats_expr_other, eats_an_if, eats_otherwise_at, eats_otherwise_other, eats_taken_at}
use Rattle.verse_grammar.proofs.Eating.{eats_taken_other, eats_return_value_at, eats_return_value_other, eats_assign_at}
use Rattle.verse_grammar.proofs.Sticking.{sticks_expr_at_1, sticks_expr_other_1}
use Rattle.verse_grammar.proofs.StickingParts.{sticks_an_if_2, sticks_an_if_3, sticks_an_if_4, sticks_an_if_5, sticks_otherwise_at_1}
use Rattle.verse_grammar.proofs.StickingParts.{sticks_taken_at_1, sticks_taken_other_1, sticks_set_rest_1, sticks_return_value_at_1}
use Rattle.verse_grammar.proofs.StickingParts.{sticks_assign_other, sticks_assign_end}
use Rattle.verse_expr_control.proofs.Writing.{set_by, eats_set_by, sticks_set_by, eats_writes, sticks_writes_1, sticks_writes_2}
use Rattle.verse_expr_control.specs.Writing.{writes}
use Rattle.verse_expr_control.proofs.Starting.{return_start}

pub ruleset of_expr = (expr_if, expr_or, eats_expr_at, eats_expr_other, sticks_expr_at_1, sticks_expr_other_1)

pub ruleset of_if_form = (
  if_else,
  if_alone,
  eats_an_if,
  eats_otherwise_at,
  eats_otherwise_other,
  sticks_an_if_2,
  sticks_an_if_3,
  sticks_an_if_4,
  sticks_an_if_5,
  sticks_otherwise_at_1,
)

pub ruleset of_taken = (taken_then, taken_block, eats_taken_at, eats_taken_other, sticks_taken_at_1, sticks_taken_other_1)

pub ruleset of_set = (set_by, eats_set_by, sticks_set_by, sticks_set_rest_1)

pub ruleset of_written = (writes, eats_writes, sticks_writes_1, sticks_writes_2)

pub ruleset of_returned = (returned, returned_unit, eats_return_value_at, eats_return_value_other, sticks_return_value_at_1, return_start)

pub ruleset of_assign = (eats_assign_at, sticks_assign_other, sticks_assign_end)
