use Rattle.verse_image.proofs.Locality.{image_cut}
use Rattle.verse_image.proofs.laws.cut_short.Goals as goal

pub returns : goal.returns
returns c = image_cut
