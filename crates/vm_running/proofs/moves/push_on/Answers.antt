use Rattle.vm_running.proofs.Steps.{comes_by, pushes_leads}
use Rattle.vm_running.proofs.moves.push_on.Goals as goal

pub go_on-requires-clause-ready : goal.go_on-requires-clause-ready
go_on-requires-clause-ready g c = (pushes_leads _ _ _ c.requires.ready c.in_ok-push.ensures.ok).ready

pub go_on-requires-clause-inner : goal.go_on-requires-clause-inner
go_on-requires-clause-inner g c = (pushes_leads _ _ _ c.requires.ready c.in_ok-push.ensures.ok).inner c.requires.inner

pub returns : goal.returns
returns g c = comes_by (pushes_leads _ _ _ c.requires.ready c.in_ok-push.ensures.ok) c.go_on.ensures
