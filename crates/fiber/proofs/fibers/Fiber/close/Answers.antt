use Rattle.std.proofs.Common.{arith}
use Rattle.fiber.proofs.Framed.{heads_there, closed_in}
use Rattle.fiber.proofs.fibers.Fiber.close.Goals as goal

pub close-requires : goal.close-requires
close-requires c = heads_there _ _ _ c.self.view_is c.requires.some

pub invariant_of-self : goal.invariant_of-self
invariant_of-self c =
    let all = closed_in _ _ _ _ _ c.self.view_is c.self.invariant.high c.requires.some c.requires.bare c.close.ensures c.close-2.ensures in
    let few = c.self.invariant.few in
    record { high = all.1; few = omega (arith, all.2, few) }

pub returns : goal.returns
returns c = (closed_in _ _ _ _ _ c.self.view_is c.self.invariant.high c.requires.some c.requires.bare c.close.ensures c.close-2.ensures).0
