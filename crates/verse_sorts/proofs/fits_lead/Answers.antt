use Rattle.verse_sorts.proofs.Fitting.{fits_on}
use Rattle.verse_sorts.proofs.fits_lead.Goals as goal

pub returns : goal.returns
returns c = λ up a b d f g. fits_on up f g
