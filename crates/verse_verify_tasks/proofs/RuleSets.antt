-- The lemmas that the goals of a function want, by its name.
use Rattle.verse_meaning_state.proofs.Numbers.{eqn_more}
use Rattle.verse_verify_tasks.proofs.Counting.{count_is}

pub ruleset of_filling = (count_is, eqn_more)
