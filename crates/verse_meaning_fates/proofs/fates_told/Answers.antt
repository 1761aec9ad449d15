use Rattle.verse_meaning_fates.proofs.Fates.{fates_told}
use Rattle.verse_meaning_fates.proofs.fates_told.Goals as goal

pub returns : goal.returns
returns c = fates_told c.numbers_once.ensures
