use Rattle.fiber_stacks.proofs.Headed.{locals_in, set_in}
use Rattle.fiber_stacks.proofs.heads.Heads.put.Goals as goal

pub put-requires : goal.put-requires
put-requires g c = rw (locals_in _ _ _ _ c.self.view_is c.self.invariant.locals) c.requires

pub returns-clause-old : goal.returns-clause-old
returns-clause-old g c = rw (← locals_in _ _ _ _ c.self.view_is c.self.invariant.locals) c.put.ensures.old

pub returns-clause-new : goal.returns-clause-new
returns-clause-new g c = set_in _ _ _ _ _ _ _ c.self.view_is c.self.invariant.locals c.put.ensures.lists
