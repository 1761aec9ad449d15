use Rattle.verse_sound_runs.proofs.Examples.{small_fine}
use Rattle.verse_sound_runs.proofs.small_is_fine.Goals as goal

pub returns : goal.returns
returns c = small_fine
