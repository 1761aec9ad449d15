use Rattle.std.proofs.Common.{◌≡◌, ◌+◌, ◌-◌, drop, take, ap, ◌∙◌, arith}
use Rattle.fiber_stacks.specs.Levels.{operands_on}
use Rattle.fiber_stacks.specs.Heads.{height}
use Rattle.fiber.proofs.Anywhere.{few, above, stack_in}
use Rattle.fiber.proofs.fibers.Fiber.frame_stack.Goals as goal

pub height-above-requires-clause-few : goal.height-above-requires-clause-few
height-above-requires-clause-few c =
    let all = few _ _ _ _ _ c.self.view_is c.requires c.from.ensures in
    omega (arith, all)

pub height-above-requires-clause-small : goal.height-above-requires-clause-small
height-above-requires-clause-small c =
    let all = few _ _ _ _ _ c.self.view_is c.requires c.from.ensures in
    omega (arith, all, c.self.invariant.few)

pub operands_at-requires-clause-few : goal.operands_at-requires-clause-few
operands_at-requires-clause-few c = rw c.height-above.ensures.all
    (above _ _ _ _ _ c.self.view_is c.requires c.from.ensures c.self.invariant.high)

pub returns : goal.returns
returns c =
    let same : c.height-above.result + 1 - 1 ≡ height (take (c.from.result - 1) c.self.inside.heads) =
    omega (arith, c.height-above.ensures.all) in
    stack_in _ _ _ _ _ c.self.view_is c.requires c.from.ensures _
    (c.operands_at.ensures ∙ ap (λ k. operands_on (drop k c.self.inside.levels)) same)
