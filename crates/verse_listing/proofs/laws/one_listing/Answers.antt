use Rattle.std.proofs.Common.{◌∙◌, sym}
use Rattle.verse_listing.proofs.laws.one_listing.Goals as goal

pub returns : goal.returns
returns c = λ code a b i j. i.spelled ∙ sym j.spelled
