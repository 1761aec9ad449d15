use Rattle.fiber.proofs.Framed.{ended_case, ended_high, ended_none}
use Rattle.fiber.proofs.fibers.Fiber.end_defer.Goals as goal

pub invariant_of-self : goal.invariant_of-self
invariant_of-self c = record {
  high = ended_high _ _ _ _ c.self.invariant.high c.take_note.ensures.some c.take_note.ensures.there
      c.take_note.ensures.same;
  few = c.self.invariant.few;
}

pub returns-clause-some : goal.returns-clause-some
returns-clause-some c = ended_case _ _ _ _ _ c.self.view_is c.self.invariant.high c.take_note.ensures.some c.take_note.ensures.there

pub returns-clause-none : goal.returns-clause-none
returns-clause-none c = ended_none _ _ _ _ c.self.view_is c.take_note.ensures.none
