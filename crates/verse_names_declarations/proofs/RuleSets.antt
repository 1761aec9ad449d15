-- The lemmas that the goals of a function want, by its name.
use Rattle.verse_names_declarations.proofs.Climbing.{up, top, end, other_up, other_top, other_end}

pub ruleset of_line_of = (up, top, end)

pub ruleset of_ancestors = (other_up, other_top, other_end)
