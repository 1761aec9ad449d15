use Rattle.std.proofs.Common.{rules}
use Rattle.fiber_stacks.proofs.Layered.{total_of}
use Rattle.fiber_stacks.proofs.layers.Layers.reserve.Goals as goal

pub returns-clause-ok : goal.returns-clause-ok
returns-clause-ok g c = rw (c.in_ok-reserve.ensures.items, total_of _ _ c.self.invariant) (search rules)
