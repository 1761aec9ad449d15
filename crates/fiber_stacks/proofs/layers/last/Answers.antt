use Rattle.fiber_stacks.proofs.Layered.{last_first}
use Rattle.fiber_stacks.proofs.layers.last.Goals as goal

pub returns-clause-some : goal.returns-clause-some
returns-clause-some g c = rw (c.copied.ensures, c.last.ensures.value) (last_first c.args.items.now)
