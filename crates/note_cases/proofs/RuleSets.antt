-- The lemmas that the goals of a function want, by its name.
use Rattle.lower_blocks.proofs.NoPatterns.{no_arm_awaited, no_arm_chosen, no_arm_returned, no_arm_slept, not_any_awaited, not_any_chosen}
use Rattle.lower_blocks.proofs.NoPatterns.{not_any_returned, not_any_slept}
use Rattle.note_cases.proofs.NoPatterns.{no_pattern_returned, no_pattern_chosen, no_pattern_slept, no_pattern_awaited}

pub ruleset of_patterns = (no_pattern_returned, no_pattern_chosen, no_pattern_slept, no_pattern_awaited)

pub ruleset of_any = (not_any_returned, not_any_chosen, not_any_slept, not_any_awaited)

pub ruleset of_arms = (no_arm_returned, no_arm_chosen, no_arm_slept, no_arm_awaited)
