use Rattle.run_save_groups.proofs.Runs.{arms_go_on}
use Rattle.run_save_groups.proofs.arms_go_on.Goals as goal

pub returns : goal.returns
returns c = arms_go_on
