use Rattle.std.proofs.Common.{◌∙◌}
use Rattle.fiber.proofs.Framed.{guard_in}
use Rattle.fiber.proofs.fibers.Fiber.guarded.Goals as goal

pub returns : goal.returns
returns c = c.any_bounds.ensures ∙ guard_in _ _ _ c.self.view_is
