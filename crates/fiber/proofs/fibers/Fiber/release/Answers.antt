use Rattle.fiber.proofs.Framed.{released_in}
use Rattle.fiber.proofs.fibers.Fiber.release.Goals as goal

pub returns-clause-yes : goal.returns-clause-yes
returns-clause-yes c sure = (released_in _ _ _ _ _ _ c.self.view_is c.self.invariant.high c.in-Some.ensures.some c.in-Some.ensures.there
    c.merge.ensures).0
