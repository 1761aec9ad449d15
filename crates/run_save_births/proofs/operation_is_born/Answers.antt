use Rattle.run_save_births.proofs.Runs.{operation_is_born}
use Rattle.run_save_births.proofs.operation_is_born.Goals as goal

pub returns : goal.returns
returns c = operation_is_born
