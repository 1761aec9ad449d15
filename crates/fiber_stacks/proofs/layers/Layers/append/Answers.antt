use Rattle.std.proofs.Common.{ap}
use Rattle.fiber_stacks.proofs.Layered.{grown_in}
use Rattle.fiber_stacks.proofs.layers.Layers.append.Goals as goal

pub invariant_of-self-2 : goal.invariant_of-self-2
invariant_of-self-2 g c = (grown_in _ _ _ _ _ c.self.invariant (ap (λ l. l.lists) c.self.view_is) c.requires c.in_ok-append.ensures.items).1

pub returns-clause-ok : goal.returns-clause-ok
returns-clause-ok g c = (grown_in _ _ _ _ _ c.self.invariant (ap (λ l. l.lists) c.self.view_is) c.requires c.in_ok-append.ensures.items).0
