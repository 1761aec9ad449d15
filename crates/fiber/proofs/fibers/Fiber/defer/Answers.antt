use Rattle.fiber.proofs.Framed.{levels_there, deferred_in}
use Rattle.fiber.proofs.fibers.Fiber.defer.Goals as goal

pub defer-requires : goal.defer-requires
defer-requires c = levels_there _ _ _ c.self.view_is c.self.invariant.high c.requires

pub invariant_of-self-2 : goal.invariant_of-self-2
invariant_of-self-2 c = record {
  high = (deferred_in _ _ _ _ _ c.self.view_is c.self.invariant.high c.in_ok-defer.ensures.ok).1;
  few =
      c.self.invariant.few;
}

pub returns-clause-ok : goal.returns-clause-ok
returns-clause-ok c = (deferred_in _ _ _ _ _ c.self.view_is c.self.invariant.high c.in_ok-defer.ensures.ok).0
