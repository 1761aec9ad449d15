-- The lemmas that the goals of a function want, by its name.
use Rattle.verse_value.proofs.Stepping.{array_part, array_past, array_none, array_misfit, map_part, map_past, map_none, map_misfit}

pub ruleset of_in_parts = (array_part, array_past, array_none, array_misfit)

pub ruleset of_in_entries = (map_part, map_past, map_none, map_misfit)
