use Rattle.verse_listing.proofs.Fronts.{front_has_no_fault}
use Rattle.verse_listing.proofs.laws.front_has_no_fault.Goals as goal

pub returns : goal.returns
returns c = front_has_no_fault
