-- The lemmas that the goals of a function want, by its name.
use Rattle.verse_value_writes.proofs.Ints.{ranged_some, ranged_none}

pub ruleset of_in_range = (ranged_some, ranged_none)
