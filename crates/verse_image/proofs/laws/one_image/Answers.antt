use Rattle.verse_image.proofs.ImageLaws.{image_once}
use Rattle.verse_image.proofs.laws.one_image.Goals as goal

pub returns : goal.returns
returns c = image_once
