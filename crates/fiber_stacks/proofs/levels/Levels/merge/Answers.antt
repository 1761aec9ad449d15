use Rattle.std.proofs.Common.{arith}
use Rattle.fiber_stacks.proofs.Levelled.{size_in, merged_in}
use Rattle.fiber_stacks.proofs.levels.Levels.merge.Goals as goal

pub join-requires : goal.join-requires
join-requires g c =
    let size = size_in _ _ _ _ c.self.view_is in
    omega (arith, size, c.requires)

pub join-requires-2 : goal.join-requires-2
join-requires-2 g c =
    let size = size_in _ _ _ _ c.self.view_is in
    omega (arith, size, c.requires, c.self.invariant.defers)

pub join-requires-3 : goal.join-requires-3
join-requires-3 g c =
    let size = size_in _ _ _ _ c.self.view_is in
    omega (arith, size, c.requires, c.self.invariant.noted)

pub returns : goal.returns
returns g c =
    rw (c.join.ensures.lists, c.join-2.ensures.lists, c.join-3.ensures.lists)
    (merged_in _ _ _ _ c.self.view_is c.self.invariant.defers c.self.invariant.noted c.requires)
