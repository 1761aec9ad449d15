use Rattle.std.proofs.Common.{ap}
use Rattle.fiber_stacks.proofs.Layered.{joined_in}
use Rattle.fiber_stacks.proofs.layers.Layers.join.Goals as goal

pub invariant_of-self : goal.invariant_of-self
invariant_of-self g c = (joined_in _ _ _ _ _ c.self.invariant (ap (λ l. l.lists) c.self.view_is) c.requires c.take_last.ensures.items).1

pub returns-clause-lists : goal.returns-clause-lists
returns-clause-lists g c = (joined_in _ _ _ _ _ c.self.invariant (ap (λ l. l.lists) c.self.view_is) c.requires c.take_last.ensures.items).0
