use Rattle.verse_grammar.proofs.CompletingStops.{stuck_stops}
use Rattle.verse_grammar.proofs.laws_begins.stuck_stops.Goals as goal

pub returns : goal.returns
returns c = stuck_stops
