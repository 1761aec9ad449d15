use Rattle.std.proofs.Common.{reverse, ap, ◌∙◌, arith}
use Rattle.fiber_stacks.proofs.Levelled.{size_in, operands_in}
use Rattle.fiber_stacks.proofs.levels.Levels.operands_at.Goals as goal

pub span-requires-clause-within : goal.span-requires-clause-within
span-requires-clause-within g c =
    let size = size_in _ _ _ _ c.self.view_is in
    omega (arith, size, c.requires.few)

pub returns : goal.returns
returns g c = ap reverse c.span.ensures ∙ operands_in _ _ _ _ _ c.self.view_is c.requires.some
