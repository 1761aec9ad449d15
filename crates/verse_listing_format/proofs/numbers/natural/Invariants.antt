use Rattle.verse_listing_format.proofs.NumberLemmas.{Counts}
use Rattle.verse_listing_format.proofs.numbers.natural.Given as goal

abbrev pub invariant-digits : goal.invariant-digits
invariant-digits l = Counts l.word l.digit-index l.value
