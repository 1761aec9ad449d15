use Rattle.run_save_groups.proofs.Runs.{run_keeps_arms}
use Rattle.run_save_groups.proofs.run_keeps_arms.Goals as goal

pub returns : goal.returns
returns c = run_keeps_arms
