use Rattle.fiber_stacks.proofs.Headed.{grown_in}
use Rattle.fiber_stacks.proofs.heads.Heads.push_local.Goals as goal

pub returns-clause-ok : goal.returns-clause-ok
returns-clause-ok g c = grown_in _ _ _ _ _ _ c.self.view_is c.self.invariant.locals c.in_ok-push.ensures.ok
