use Rattle.fiber_stacks.proofs.Headed.{bound_in}
use Rattle.fiber_stacks.proofs.heads.Heads.bind.Goals as goal

pub returns-clause-ok : goal.returns-clause-ok
returns-clause-ok g c = bound_in _ _ _ _ _ _ c.self.view_is c.self.invariant.bounds c.in_ok-push.ensures.ok
