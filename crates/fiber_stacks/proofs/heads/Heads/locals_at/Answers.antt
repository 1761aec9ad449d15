use Rattle.std.proofs.Common.{◌≡◌, length, Some, sym, ap, ◌∙◌, arith}
use Rattle.fiber_stacks.proofs.Headed.{size_in, locals_got}
use Rattle.fiber_stacks.proofs.heads.Heads.locals_at.Goals as goal

pub span-requires-clause-within : goal.span-requires-clause-within
span-requires-clause-within g c =
    let size : length c.args.self.now ≡ length c.self.inside.places.items = size_in _ _ _ _ c.self.view_is in
    omega (arith, size, c.requires.few, c.self.invariant.locals)

pub returns : goal.returns
returns g c = locals_got c.self.inside.places.items _ _ c.self.inside.bounds.lists _ c.self.view_is c.requires.some c.requires.few ∙
    ap Some (sym c.span.ensures)
