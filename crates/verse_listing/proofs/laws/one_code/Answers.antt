use Rattle.std.proofs.Common.{◌∙◌, sym}
use Rattle.verse_listing.proofs.Fronts.{code_is}
use Rattle.verse_listing.proofs.StageAgain.{listing_again}
use Rattle.verse_listing.proofs.laws.one_code.Goals as goal

pub returns : goal.returns
returns c = λ bytes a b i j. code_is a b (sym (listing_again a bytes i) ∙ listing_again b bytes j)
