use Rattle.fiber.proofs.Framed.{heads_there}
use Rattle.fiber.proofs.Opened.{more_in}
use Rattle.fiber.proofs.fibers.Fiber.add_local.Goals as goal

pub push_local-requires : goal.push_local-requires
push_local-requires c = heads_there _ _ _ c.self.view_is c.requires

pub invariant_of-self-2 : goal.invariant_of-self-2
invariant_of-self-2 c =
    let all = more_in _ _ _ _ _ c.self.view_is c.self.invariant.high c.in_ok-push_local.ensures.ok in
    record { high = all.1; few = rw all.2 c.self.invariant.few }

pub returns-clause-ok : goal.returns-clause-ok
returns-clause-ok c = (more_in _ _ _ _ _ c.self.view_is c.self.invariant.high c.in_ok-push_local.ensures.ok).0
