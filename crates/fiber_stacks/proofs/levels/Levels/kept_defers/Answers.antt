use Rattle.std.proofs.Common.{length, ap, arith}
use Rattle.fiber_stacks.proofs.Levelled.{size_in, kept_count}
use Rattle.fiber_stacks.proofs.levels.Levels.kept_defers.Goals as goal

pub count-requires : goal.count-requires
count-requires g c =
    let size = size_in _ _ _ _ c.self.view_is in
    omega (arith, size, c.requires.few, c.self.invariant.defers)

pub returns : goal.returns
returns g c =
    let size = size_in _ _ _ _ c.self.view_is in
    let sum = kept_count _ _ _ _ _ c.self.view_is c.self.invariant.defers c.requires.some (omega (arith, size, c.requires.few)) in
    omega (arith, sum, c.count.ensures.all, ap length c.top.ensures)
