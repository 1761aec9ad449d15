use Rattle.lower_simulation_runs.proofs.Programs.{turns_are_the_same}
use Rattle.lower_simulation_runs.proofs.turns_are_the_same.Goals as goal

pub returns : goal.returns
returns c = turns_are_the_same c.runs_end.ensures c.code_is_valid.ensures
