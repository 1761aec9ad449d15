use Rattle.fiber.proofs.Framed.{set_in}
use Rattle.fiber.proofs.fibers.Fiber.put_local.Goals as goal

pub invariant_of-self : goal.invariant_of-self
invariant_of-self c =
    let all = set_in _ _ _ _ _ _ c.self.view_is c.self.invariant.high c.put.ensures.new in
    record { high = all.1; few = rw all.2 c.self.invariant.few }

pub returns-clause-new : goal.returns-clause-new
returns-clause-new c = (set_in _ _ _ _ _ _ c.self.view_is c.self.invariant.high c.put.ensures.new).0
