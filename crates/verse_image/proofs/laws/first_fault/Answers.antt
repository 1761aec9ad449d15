use Rattle.verse_image.proofs.Locality.{fault_stays}
use Rattle.verse_image.proofs.laws.first_fault.Goals as goal

pub returns : goal.returns
returns c = fault_stays
