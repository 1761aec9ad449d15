-- The lemmas that the goals of a function want, by its name.
use Rattle.verse_lex.proofs.Values.{too_long, too_large, thousandths_is}
use Rattle.verse_lex.proofs.Bounds.{fraction_within, digits_within, digits_length}

pub ruleset of_thousandths = (too_long, too_large, thousandths_is)

pub ruleset of_fractional_number = (fraction_within, digits_within, digits_length)
