use Rattle.lower_simulation_runs.proofs.Programs.{code_means_the_same}
use Rattle.lower_simulation_runs.proofs.code_means_the_same.Goals as goal

pub returns : goal.returns
returns c = code_means_the_same c.runs_end.ensures c.code_is_valid.ensures
