use Rattle.std.proofs.Common.{sym, ap, ◌∙◌}
use Rattle.fiber.specs.Bounding.{within}
use Rattle.fiber.proofs.Framed.{permits_in}
use Rattle.fiber.proofs.fibers.Fiber.window.Goals as goal

pub returns : goal.returns
returns c q from above =
    sym (permits_in _ _ _ q c.self.view_is) ∙ ap (λ b. within b q) (sym c.bounds.ensures) ∙ c.window_of.ensures q from above
