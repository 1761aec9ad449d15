use Rattle.std.proofs.Common.{rules}
use Rattle.fiber.proofs.Framed.{size_in}
use Rattle.fiber.proofs.fibers.Fiber.depth.Goals as goal

pub returns : goal.returns
returns c =
    let few = c.self.invariant.few in
    let size = size_in _ _ _ c.self.view_is in
    search (rules, few, size)
