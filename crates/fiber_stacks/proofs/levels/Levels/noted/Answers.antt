use Rattle.std.proofs.Common.{length, sym, ap, ◌∙◌, arith}
use Rattle.fiber_stacks.specs.Levels.{noted_in}
use Rattle.fiber_stacks.proofs.Levelled.{size_in, noted_count}
use Rattle.fiber_stacks.proofs.levels.Levels.noted.Goals as goal

pub count-requires : goal.count-requires
count-requires g c =
    let size = size_in _ _ _ _ c.self.view_is in
    omega (arith, size, c.requires, c.self.invariant.noted)

pub returns : goal.returns
returns g c =
    let size = size_in _ _ _ _ c.self.view_is in
    c.count.ensures.all ∙ sym (noted_count _ _ c.self.inside.defers.lists _ c.self.invariant.noted (omega (arith, size, c.requires))) ∙
    ap (λ l. length (noted_in c.args.count l)) c.self.view_is
