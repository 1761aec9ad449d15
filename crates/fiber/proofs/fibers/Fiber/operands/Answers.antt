use Rattle.fiber.proofs.Framed.{stack_in}
use Rattle.fiber.proofs.fibers.Fiber.operands.Goals as goal

pub returns : goal.returns
returns c = stack_in _ _ _ c.self.view_is c.requires c.operands.result.now c.operands.ensures
