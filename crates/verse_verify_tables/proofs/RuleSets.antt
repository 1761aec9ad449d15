-- The lemmas that the goals of a function want, by its name.
use Rattle.verse_verify_tables.proofs.Chains.{met, further, ended, spent}
use Rattle.verse_verify_sorts.proofs.Climbing.{found, one_up, at_top, at_end}

pub ruleset of_chains = (met, further, ended, spent)

pub ruleset of_climbing = (found, one_up, at_top, at_end)
