use Rattle.verse_accept_tables.proofs.Whole.{size_fits}
use Rattle.verse_accept_tables.proofs.size_fits.Goals as goal

pub returns : goal.returns
returns c = size_fits
