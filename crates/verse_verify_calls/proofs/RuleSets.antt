-- The lemmas that the goals of a function want, by its name.
use Rattle.verse_verify_operands.proofs.Found.{pops_by, methods_by}

pub ruleset of_methods = (pops_by, methods_by)
