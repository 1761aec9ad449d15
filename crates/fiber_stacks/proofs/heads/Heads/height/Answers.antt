use Rattle.std.proofs.Common.{◌≡◌, ◌+◌, length, sym, ap, ◌∙◌, arith}
use Rattle.fiber_stacks.proofs.Headed.{size_in, height_in}
use Rattle.fiber_stacks.proofs.heads.Heads.height.Goals as goal

pub count-requires : goal.count-requires
count-requires g c =
    let size : length c.args.self.now ≡ length c.self.inside.places.items = size_in _ _ _ _ c.self.view_is in
    omega (arith, size, c.requires.few, c.self.invariant.bounds)

pub returns-clause-all : goal.returns-clause-all
returns-clause-all g c = ap (λ k. c.args.count + k) c.count.ensures.all ∙
    sym (height_in _ _ _ _ _ c.self.view_is c.self.invariant.bounds c.requires.few)
