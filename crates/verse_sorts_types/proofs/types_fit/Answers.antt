use Rattle.verse_sorts_types.proofs.Fitting.{fits_sort}
use Rattle.verse_sorts_types.proofs.types_fit.Goals as goal

pub returns : goal.returns
returns c = fits_sort
