use Rattle.verse_code_machine_saved.proofs.Horizons.{horizon_moves_again}
use Rattle.verse_code_machine_saved.proofs.horizon_moves_again.Goals as goal

pub returns : goal.returns
returns c = horizon_moves_again
