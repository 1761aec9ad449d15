use Rattle.fiber.proofs.Framed.{taken_in, taken_some}
use Rattle.fiber.proofs.fibers.Fiber.take_defer.Goals as goal

pub unreachable-requires : goal.unreachable-requires
unreachable-requires c =
    let none = c.in-None.ensures.none in
    taken_some _ _ _ c.self.view_is c.requires none

pub returns : goal.returns
returns c = (taken_in _ _ _ _ _ _ c.self.view_is c.self.invariant.high c.in-Some.ensures.some).0
