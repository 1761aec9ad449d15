use Rattle.std.proofs.Common.{◌+◌, ap}
use Rattle.vm_running.proofs.Steps.{comes_by}
use Rattle.vm_exec_calls.proofs.Blocks.{ready_deferred, defer_leads}
use Rattle.vm_exec_calls.proofs.deferring.defer.Goals as goal

pub go-requires : goal.go-requires
go-requires g c = record { ready = ready_deferred _ _ _ c.requires.ready c.in_ok-defer.ensures.ok }

pub returns : goal.returns
returns g c code = comes_by (defer_leads code c.args.label _ _ _ c.requires.ready
    (ap (λ k. k + 1) c.place-block.ensures) c.in_ok-defer.ensures.ok) c.go.ensures
