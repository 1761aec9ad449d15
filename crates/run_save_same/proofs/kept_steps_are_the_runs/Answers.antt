use Rattle.run_save_same.proofs.Again.{kept_steps_are_the_runs}
use Rattle.run_save_same.proofs.kept_steps_are_the_runs.Goals as goal

pub returns : goal.returns
returns c = kept_steps_are_the_runs c.steps_kept.ensures
