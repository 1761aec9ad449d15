use Rattle.std.proofs.Common.{sym, ap, ◌∙◌}
use Rattle.fiber.specs.Bounding.{within}
use Rattle.fiber.proofs.Framed.{permits_in}
use Rattle.fiber.proofs.fibers.Fiber.permits.Goals as goal

pub returns : goal.returns
returns c = c.all_permit.ensures ∙ ap (λ b. within b c.args.place) c.bounds.ensures ∙ permits_in _ _ _ _ c.self.view_is
