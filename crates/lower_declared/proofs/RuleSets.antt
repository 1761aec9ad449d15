-- The lemmas that the goals of a function want, by its name.
use Rattle.lower_declared.proofs.Lines.{up, top, end}

pub ruleset of_lines = (up, top, end)
