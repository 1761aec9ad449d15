use Rattle.std.proofs.Common.{sym, ◌∙◌}
use Rattle.vm_running.proofs.Steps.{goes_sure, goes_not}
use Rattle.vm_running.proofs.moves.go.Goals as goal

pub returns-then-go : goal.returns-then-go
returns-then-go g c = goes_sure _ _ _ c.requires.ready (sym c.go.ensures.test ∙ c.if-go.true) (c.go.ensures.yes c.if-go.true)

pub returns-else-go : goal.returns-else-go
returns-else-go g c = goes_not _ _ _ (sym c.go.ensures.test ∙ c.if-go.false)
