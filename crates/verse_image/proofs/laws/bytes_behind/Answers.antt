use Rattle.verse_image.proofs.Locality.{image_longer}
use Rattle.verse_image.proofs.laws.bytes_behind.Goals as goal

pub returns : goal.returns
returns c = image_longer
