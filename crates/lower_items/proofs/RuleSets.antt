-- The lemmas that the goals of a function want, by its name.
use Rattle.lower_items.proofs.Splitting.{main_here, main_behind}

pub ruleset of_main = (main_here, main_behind)
