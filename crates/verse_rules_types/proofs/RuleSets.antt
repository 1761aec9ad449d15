-- The lemmas that the goals of a function want, by its name.
use Rattle.verse_rules_types.proofs.Climbing.{one_up, at_top, found, at_end}
use Rattle.verse_rules_types.proofs.Levels.{height_up, height_top, height_end, lift_up, lift_top, lift_end}
use Rattle.verse_rules_types.proofs.Levels.{meet_up, meet_here, meet_top, meet_far, meet_end}

pub ruleset of_climbing = (one_up, at_top, found, at_end)

pub ruleset of_heights = (height_up, height_top, height_end)

pub ruleset of_lifting = (lift_up, lift_top, lift_end)

pub ruleset of_meeting = (meet_up, meet_here, meet_top, meet_far, meet_end)
