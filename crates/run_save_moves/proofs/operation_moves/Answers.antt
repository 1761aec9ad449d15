use Rattle.run_save_moves.proofs.ActsMove.{operation_leads}
use Rattle.run_save_moves.proofs.operation_moves.Goals as goal

pub returns : goal.returns
returns c = operation_leads
