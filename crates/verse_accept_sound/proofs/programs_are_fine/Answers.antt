use Rattle.verse_accept_sound.proofs.Programs.{programs_fine}
use Rattle.verse_accept_sound.proofs.programs_are_fine.Goals as goal

pub returns : goal.returns
returns c = programs_fine c.trees_are_fine.ensures
