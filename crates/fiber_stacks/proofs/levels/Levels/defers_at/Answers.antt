use Rattle.std.proofs.Common.{reverse, ap, ◌∙◌, arith}
use Rattle.fiber_stacks.proofs.Levelled.{size_in, defers_part}
use Rattle.fiber_stacks.proofs.levels.Levels.defers_at.Goals as goal

pub span-requires-clause-within : goal.span-requires-clause-within
span-requires-clause-within g c =
    let size = size_in _ _ _ _ c.self.view_is in
    omega (arith, size, c.requires.within, c.self.invariant.defers)

pub returns : goal.returns
returns g c =
    let size = size_in _ _ _ _ c.self.view_is in
    ap reverse c.span.ensures ∙ defers_part _ _ _ _ _ _ c.self.view_is c.self.invariant.defers c.requires.order
    (omega (arith, size, c.requires.within))
