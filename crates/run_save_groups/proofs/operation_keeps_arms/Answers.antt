use Rattle.run_save_groups.proofs.Runs.{operation_keeps_arms}
use Rattle.run_save_groups.proofs.operation_keeps_arms.Goals as goal

pub returns : goal.returns
returns c = operation_keeps_arms
