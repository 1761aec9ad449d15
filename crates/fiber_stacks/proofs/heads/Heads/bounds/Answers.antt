use Rattle.std.proofs.Common.{reverse, ap, ◌∙◌}
use Rattle.fiber_stacks.proofs.Headed.{bounds_in}
use Rattle.fiber_stacks.proofs.heads.Heads.bounds.Goals as goal

pub returns : goal.returns
returns g c = ap reverse c.top.ensures ∙ bounds_in _ _ _ _ c.self.view_is c.self.invariant.bounds
