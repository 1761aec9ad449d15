use Rattle.std.proofs.Common.{◌∙◌, sym}
use Rattle.verse_image.proofs.NumberLaws.{ok_is}
use Rattle.verse_image.proofs.ImageLaws.{image_again}
use Rattle.verse_image.proofs.laws.one_code.Goals as goal

pub returns : goal.returns
returns c = λ bytes v w a b i j. ok_is a b (sym (image_again v a bytes i) ∙ image_again w b bytes j)
