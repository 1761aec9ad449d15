use Rattle.std.proofs.Common.{◌-◌, ap, ◌∙◌, arith}
use Rattle.fiber.proofs.Framed.{size_in}
use Rattle.fiber.proofs.fibers.Fiber.from.Goals as goal

pub overflow_sub-result : goal.overflow_sub-result
overflow_sub-result c =
    let size = size_in _ _ _ c.self.view_is in
    omega (arith, size, c.requires, c.depth.ensures)

pub returns : goal.returns
returns c = ap (λ k. k - c.args.i) (c.depth.ensures ∙ size_in _ _ _ c.self.view_is)
