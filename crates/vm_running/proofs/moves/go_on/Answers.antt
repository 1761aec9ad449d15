use Rattle.std.proofs.Common.{◌+◌, ap}
use Rattle.vm_running.proofs.Steps.{comes_by, on_leads}
use Rattle.vm_running.proofs.moves.go_on.Goals as goal

pub returns : goal.returns
returns g c = comes_by (on_leads _ _ c.requires.ready (ap (λ k. k + 1) c.place-next.ensures)) c.go.ensures
