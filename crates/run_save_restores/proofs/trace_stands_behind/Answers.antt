use Rattle.run_save_restores.proofs.Traces.{trace_stands_behind}
use Rattle.run_save_restores.proofs.trace_stands_behind.Goals as goal

pub returns : goal.returns
returns c = trace_stands_behind
