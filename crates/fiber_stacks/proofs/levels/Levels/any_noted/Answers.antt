use Rattle.std.proofs.Common.{sym, ◌∙◌}
use Rattle.fiber_stacks.proofs.Levelled.{any_in}
use Rattle.fiber_stacks.proofs.levels.Levels.any_noted.Goals as goal

pub returns : goal.returns
returns g c = c.any.ensures ∙ sym (any_in _ _ _ _ c.self.view_is c.self.invariant.noted)
