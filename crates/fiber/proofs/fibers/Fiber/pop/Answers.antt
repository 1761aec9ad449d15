use Rattle.fiber.proofs.Framed.{popped_case, popped_high, popped_none}
use Rattle.fiber.proofs.fibers.Fiber.pop.Goals as goal

pub invariant_of-self : goal.invariant_of-self
invariant_of-self c = record {
  high = popped_high _ _ _ _ c.self.invariant.high c.pop.ensures.some c.pop.ensures.there c.pop.ensures.same;
  few = c.self.invariant.few;
}

pub returns-clause-some : goal.returns-clause-some
returns-clause-some c = popped_case _ _ _ _ _ c.self.view_is c.self.invariant.high c.pop.ensures.some c.pop.ensures.there

pub returns-clause-none : goal.returns-clause-none
returns-clause-none c = popped_none _ _ _ _ c.self.view_is c.pop.ensures.none
