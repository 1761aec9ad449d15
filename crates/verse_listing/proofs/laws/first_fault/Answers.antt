use Rattle.verse_listing.proofs.Fronts.{fault_stays}
use Rattle.verse_listing.proofs.laws.first_fault.Goals as goal

pub returns : goal.returns
returns c = fault_stays
