use Rattle.run_save_restores.proofs.Restores.{behind_trace}
use Rattle.run_save_restores.proofs.saved_behind_trace.Goals as goal

pub returns : goal.returns
returns c = behind_trace c.saved_is_read.ensures c.trace_stands_behind.ensures
