use Rattle.verse_code_machine_saved.proofs.Horizons.{horizon_moves}
use Rattle.verse_code_machine_saved.proofs.horizon_moves.Goals as goal

pub returns : goal.returns
returns c = horizon_moves c.runs_end.ensures
