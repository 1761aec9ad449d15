use Rattle.vm_tasks_laws.proofs.Ticks.{result_timed}
use Rattle.vm_tasks_laws.proofs.results_reach.Goals as goal

pub returns : goal.returns
returns c = λ xs ps s e v n t. result_timed xs ps s e v n t
