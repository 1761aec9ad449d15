use Rattle.fiber.proofs.Framed.{levels_there, pushed_in}
use Rattle.fiber.proofs.fibers.Fiber.push.Goals as goal

pub push-requires : goal.push-requires
push-requires c = levels_there _ _ _ c.self.view_is c.self.invariant.high c.requires

pub invariant_of-self-2 : goal.invariant_of-self-2
invariant_of-self-2 c = record {
  high = (pushed_in _ _ _ _ _ c.self.view_is c.self.invariant.high c.in_ok-push.ensures.ok).1;
  few =
      c.self.invariant.few;
}

pub returns-clause-ok : goal.returns-clause-ok
returns-clause-ok c = (pushed_in _ _ _ _ _ c.self.view_is c.self.invariant.high c.in_ok-push.ensures.ok).0
