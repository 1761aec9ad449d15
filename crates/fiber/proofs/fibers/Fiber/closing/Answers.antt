use Rattle.std.proofs.Common.{◌∙◌}
use Rattle.fiber.proofs.Framed.{closing_in}
use Rattle.fiber.proofs.fibers.Fiber.closing.Goals as goal

pub returns : goal.returns
returns c = c.any_noted.ensures ∙ closing_in _ _ _ c.self.view_is c.self.invariant.high
