-- The lemmas that the goals of a function want, by its name.
use Rattle.verse_grammar.specs.Exprs.{chain_none, or_chain, and_chain, sum_chain, product_chain, not_word, not_comparison, minus_mark}
use Rattle.verse_grammar.specs.Exprs.{minus_postfix, postfix_chain, postfix_none}
use Rattle.verse_grammar.proofs.Going.{goes_start, goes_eats}
use Rattle.verse_expr_precedence.proofs.Chains.{stuck_chain}
use Rattle.verse_grammar.proofs.Eating.{eats_chain_tail_other, eats_or, eats_and, eats_sum, eats_product, eats_not_at, eats_not_other}
use Rattle.verse_grammar.proofs.Eating.{eats_comparison, eats_comparison_tail_at, eats_comparison_tail_other, eats_minus_at}
use Rattle.verse_grammar.proofs.Eating.{eats_minus_other, eats_postfix, eats_postfix_tail_other}
use Rattle.verse_grammar.proofs.Sticking.{sticks_or_1, sticks_or_2, sticks_and_1, sticks_and_2, sticks_sum_1, sticks_sum_2}
use Rattle.verse_grammar.proofs.Sticking.{sticks_product_1, sticks_product_2, sticks_not_at_1, sticks_not_other_1, sticks_comparison_1}
use Rattle.verse_grammar.proofs.Sticking.{sticks_comparison_2, sticks_minus_at_1, sticks_minus_other_1, sticks_postfix_1, sticks_postfix_2}
use Rattle.verse_expr_precedence.proofs.Comparing.{compared_sums}
use Rattle.verse_grammar.proofs.StickingParts.{sticks_comparison_tail_at_1}
use Rattle.verse_expr_precedence.specs.Compares.{alone, with_another}
use Rattle.verse_expr_precedence.proofs.Postfixed.{stuck_postfix}
use Rattle.verse_expr_precedence.specs.Postfixing.{one_call, eats_call, sticks_call, one_index, eats_index, sticks_index, one_member}
use Rattle.verse_expr_precedence.specs.Postfixing.{eats_member}
use Rattle.verse_expr_precedence.specs.Postfixing.{sticks_member}

pub ruleset of_chain_tail = (chain_none, goes_start, goes_eats, stuck_chain, eats_chain_tail_other)

pub ruleset of_ors = (or_chain, eats_or, sticks_or_1, sticks_or_2)

pub ruleset of_ands = (and_chain, eats_and, sticks_and_1, sticks_and_2)

pub ruleset of_sum = (sum_chain, eats_sum, sticks_sum_1, sticks_sum_2)

pub ruleset of_product = (product_chain, eats_product, sticks_product_1, sticks_product_2)

pub ruleset of_negated = (not_word, not_comparison, eats_not_at, eats_not_other, sticks_not_at_1, sticks_not_other_1)

pub ruleset of_comparison = (compared_sums, eats_comparison, sticks_comparison_1, sticks_comparison_2, sticks_comparison_tail_at_1)

pub ruleset of_comparison_tail = (alone, with_another, eats_comparison_tail_at, eats_comparison_tail_other, sticks_comparison_tail_at_1)

pub ruleset of_negative = (minus_mark, minus_postfix, eats_minus_at, eats_minus_other, sticks_minus_at_1, sticks_minus_other_1)

pub ruleset of_postfix = (postfix_chain, eats_postfix, sticks_postfix_1, sticks_postfix_2)

pub ruleset of_postfix_tail = (postfix_none, goes_start, goes_eats, eats_postfix_tail_other, stuck_postfix)

pub ruleset of_called = (one_call, eats_call, sticks_call)

pub ruleset of_indexed = (one_index, eats_index, sticks_index)

pub ruleset of_member = (one_member, eats_member, sticks_member)
