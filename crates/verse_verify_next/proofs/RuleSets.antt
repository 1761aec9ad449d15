-- The lemmas that the goals of a function want, by its name.
use Rattle.verse_verify_parts.proofs.Lists.{holds_are, no_operands, no_marks}

pub ruleset of_leading = (holds_are, no_operands, no_marks)
