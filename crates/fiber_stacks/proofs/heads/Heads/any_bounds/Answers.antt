use Rattle.std.proofs.Common.{sym, ◌∙◌}
use Rattle.fiber_stacks.proofs.Headed.{any_in}
use Rattle.fiber_stacks.proofs.heads.Heads.any_bounds.Goals as goal

pub returns : goal.returns
returns g c = c.any.ensures ∙ sym (any_in _ _ _ _ c.self.view_is c.self.invariant.bounds)
