use Rattle.fiber_stacks.proofs.Headed.{unbound_case, unbound_there, unbound_none}
use Rattle.fiber_stacks.proofs.heads.Heads.unbind.Goals as goal

pub returns-clause-some : goal.returns-clause-some
returns-clause-some g c = unbound_case _ _ _ _ _ _ c.self.view_is c.self.invariant.bounds c.pop.ensures.some c.pop.ensures.there

pub returns-clause-there : goal.returns-clause-there
returns-clause-there g c = unbound_there _ _ c.self.inside.locals.lists _ _ c.self.invariant.bounds c.pop.ensures.some c.pop.ensures.there

pub returns-clause-none : goal.returns-clause-none
returns-clause-none g c = unbound_none _ _ _ _ _ c.self.view_is c.self.invariant.bounds c.pop.ensures.none
