use Rattle.std.proofs.Common.{ap}
use Rattle.fiber_stacks.proofs.Layered.{grown_in, total_in}
use Rattle.fiber_stacks.proofs.layers.Layers.add.Goals as goal

pub keep-requires : goal.keep-requires
keep-requires g c =
    rw (← total_in _ _ _ c.self.invariant (ap (λ l. l.lists) c.self.view_is), ap (λ l. l.room) c.self.view_is) c.requires.room

pub invariant_of-self : goal.invariant_of-self
invariant_of-self g c = (grown_in _ _ _ _ _ c.self.invariant (ap (λ l. l.lists) c.self.view_is) c.requires.some c.keep.ensures.items).1

pub returns-clause-lists : goal.returns-clause-lists
returns-clause-lists g c = (grown_in _ _ _ _ _ c.self.invariant (ap (λ l. l.lists) c.self.view_is) c.requires.some c.keep.ensures.items).0
