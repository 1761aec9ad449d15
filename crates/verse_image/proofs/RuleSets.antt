-- The lemmas that the goals of a function want, by its name.
use Rattle.verse_image.proofs.ReadingSteps.{digits_none, digits_some, signed_none, signed_some}

pub ruleset of_digits = (digits_none, digits_some)

pub ruleset of_signed_digits = (signed_none, signed_some)
