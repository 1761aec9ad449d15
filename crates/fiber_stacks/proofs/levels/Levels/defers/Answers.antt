use Rattle.std.proofs.Common.{length, sym, ap, ◌∙◌, arith}
use Rattle.fiber_stacks.specs.Levels.{defers_in}
use Rattle.fiber_stacks.proofs.Levelled.{size_in, defers_count}
use Rattle.fiber_stacks.proofs.levels.Levels.defers.Goals as goal

pub count-requires : goal.count-requires
count-requires g c =
    let size = size_in _ _ _ _ c.self.view_is in
    omega (arith, size, c.requires, c.self.invariant.defers)

pub returns : goal.returns
returns g c =
    let size = size_in _ _ _ _ c.self.view_is in
    c.count.ensures.all ∙ sym (defers_count _ _ _ c.self.inside.noted.lists c.self.invariant.defers (omega (arith, size, c.requires))) ∙
    ap (λ l. length (defers_in c.args.count l)) c.self.view_is
