use Rattle.std.proofs.Common.{◌∙◌}
use Rattle.fiber_stacks.proofs.Headed.{locals_in}
use Rattle.fiber_stacks.proofs.heads.Heads.locals.Goals as goal

pub returns : goal.returns
returns g c = c.top.ensures ∙ locals_in _ _ _ _ c.self.view_is c.self.invariant.locals
