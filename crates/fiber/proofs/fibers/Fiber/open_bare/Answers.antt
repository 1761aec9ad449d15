use Rattle.std.proofs.Common.{arith}
use Rattle.fiber.proofs.Framed.{size_in}
use Rattle.fiber.proofs.Opened.{bare_opened, bare_high}
use Rattle.fiber.proofs.fibers.Fiber.open_bare.Goals as goal

pub invariant_of-self-in_default : goal.invariant_of-self-in_default
invariant_of-self-in_default c =
    let all = bare_high _ _ _ _ _ c.self.invariant.high c.in_default.ensures.ok c.in_ok-open.ensures.ok in
    let size = size_in _ _ _ c.self.view_is in
    let few = c.requires in
    record { high = all.0; few = omega (arith, all.1, size, few) }

pub returns-clause-ok : goal.returns-clause-ok
returns-clause-ok c = bare_opened _ _ _ _ _ _ c.self.view_is c.in_default.ensures.ok c.in_ok-open.ensures.ok
