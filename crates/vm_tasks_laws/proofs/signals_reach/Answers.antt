use Rattle.vm_tasks_laws.proofs.Ticks.{signal_timed}
use Rattle.vm_tasks_laws.proofs.signals_reach.Goals as goal

pub returns : goal.returns
returns c = λ xs ps s e v t. signal_timed xs ps s e v t
