use Rattle.verse_sound_effects.proofs.OpeningTrees.{open_and_closed}
use Rattle.verse_sound_effects.proofs.contexts_change_nothing.Goals as goal

pub returns : goal.returns
returns c = open_and_closed
