use Rattle.verse_grammar.proofs.CompletingStops.{left_stops}
use Rattle.verse_grammar.proofs.laws_begins.left_stops.Goals as goal

pub returns : goal.returns
returns c = left_stops
