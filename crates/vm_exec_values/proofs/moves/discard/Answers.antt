use Rattle.vm_running.specs.Doings.{goes_on}
use Rattle.vm_running.proofs.Steps.{comes_by, pop_leads}
use Rattle.vm_exec_values.proofs.moves.discard.Goals as goal

pub returns : goal.returns
returns g c code = comes_by (pop_leads (λ v. goes_on) _ _ _ c.requires.ready c.in-Some.ensures.some) c.go_on.ensures
