use Rattle.std.proofs.Common.{ap, rules}
use Rattle.fiber_stacks.proofs.Layered.{total_in}
use Rattle.fiber_stacks.proofs.layers.Layers.any.Goals as goal

pub returns : goal.returns
returns g c = rw (total_in _ _ _ c.self.invariant (ap (λ l. l.lists) c.self.view_is)) (search rules)
