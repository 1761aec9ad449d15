-- The lemmas that the goals of a function want, by its name.
use Rattle.verse_grammar.specs.Exprs.{block, part_defer, part_stmt, body_block, body_expr, stmt_control, stmt_expr, stmt_definition}
use Rattle.verse_grammar.specs.Exprs.{stmt_typed, stmt_variable, typed_value}
use Rattle.verse_grammar.proofs.Eating.{eats_block, eats_part_at, eats_part_other, eats_body_at, eats_body_other, eats_stmt_set}
use Rattle.verse_grammar.proofs.Eating.{eats_stmt_return, eats_stmt_break, eats_stmt_other, eats_stmt_name, eats_stmt_name_at1}
use Rattle.verse_grammar.proofs.Eating.{eats_stmt_name_at2, eats_stmt_var, eats_typed_value}
use Rattle.verse_grammar.proofs.Sticking.{sticks_block_1, sticks_block_2, sticks_part_at_1, sticks_part_other_1, sticks_body_at_1}
use Rattle.verse_grammar.proofs.Sticking.{sticks_body_other_1, sticks_stmt_set_1, sticks_stmt_return_1, sticks_stmt_other_1}
use Rattle.verse_grammar.proofs.Sticking.{sticks_stmt_name_1, sticks_stmt_var_1, sticks_stmt_var_2}
use Rattle.verse_expr_control.proofs.Starting.{left_at, name_start, var_start}
use Rattle.verse_grammar.proofs.ByExpr.{stmt_by_expr, stmt_stuck_by_expr}
use Rattle.verse_grammar.proofs.StickingParts.{sticks_stmt_name_at1_1, sticks_stmt_name_at2_1, sticks_typed_value_1, sticks_typed_value_2}
use Rattle.verse_grammar.proofs.StickingParts.{sticks_typed_value_3, sticks_typed_value_4}

pub ruleset of_block = (block, eats_block, sticks_block_1, sticks_block_2)

pub ruleset of_part = (part_defer, part_stmt, eats_part_at, eats_part_other, sticks_part_at_1, sticks_part_other_1)

pub ruleset of_body = (body_block, body_expr, eats_body_at, eats_body_other, sticks_body_at_1, sticks_body_other_1)

pub ruleset of_stmt = (
  stmt_control,
  stmt_expr,
  left_at,
  eats_stmt_set,
  eats_stmt_return,
  eats_stmt_break,
  eats_stmt_other,
  sticks_stmt_set_1,
  sticks_stmt_return_1,
  sticks_stmt_other_1,
)

pub ruleset of_named_stmt = (stmt_expr, stmt_by_expr, stmt_stuck_by_expr, name_start)

pub ruleset of_defined = (stmt_definition, eats_stmt_name, eats_stmt_name_at1, sticks_stmt_name_1, sticks_stmt_name_at1_1, name_start)

pub ruleset of_typed = (stmt_typed, eats_stmt_name, eats_stmt_name_at2, sticks_stmt_name_1, sticks_stmt_name_at2_1, name_start)

pub ruleset of_variable = (stmt_variable, eats_stmt_var, sticks_stmt_var_1, sticks_stmt_var_2, sticks_typed_value_1, var_start)

pub ruleset of_typed_value = (typed_value, eats_typed_value, sticks_typed_value_2, sticks_typed_value_3, sticks_typed_value_4)
