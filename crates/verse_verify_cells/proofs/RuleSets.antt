-- The lemmas that the goals of a function want, by its name.
use Rattle.verse_verify_operands.proofs.Found.{pops_by}
use Rattle.verse_verify_cells.proofs.Passing.{slots_by}

pub ruleset of_storing = (pops_by, slots_by)
