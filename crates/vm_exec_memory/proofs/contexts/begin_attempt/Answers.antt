use Rattle.vm_running.proofs.Steps.{comes_by}
use Rattle.vm_exec_memory.proofs.Attempts.{ready_guarded, inner_guarded, try_leads}
use Rattle.vm_exec_memory.proofs.contexts.begin_attempt.Goals as goal

pub go_on-requires-clause-ready : goal.go_on-requires-clause-ready
go_on-requires-clause-ready g c = ready_guarded _ _ _ _ c.requires.ready c.in_ok-mark.ensures.ok c.in_ok-mark-2.ensures.marked
    c.in_ok-guard.ensures.ok

pub go_on-requires-clause-inner : goal.go_on-requires-clause-inner
go_on-requires-clause-inner g c = inner_guarded _ _ _ _ c.in_ok-guard.ensures.ok c.requires.inner

pub returns : goal.returns
returns g c code = comes_by (try_leads code c.args.label _ _ _ c.requires.ready c.place-made.ensures c.in_ok-mark.ensures.ok
    c.in_ok-mark-2.ensures.marked c.in_ok-guard.ensures.ok) c.go_on.ensures
