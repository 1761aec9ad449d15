use Rattle.std.proofs.Common.{◌-◌, drop, take, ap, ◌∙◌, arith}
use Rattle.fiber_stacks.specs.Levels.{defers_in}
use Rattle.fiber_stacks.specs.Heads.{height}
use Rattle.fiber.proofs.Anywhere.{few, order, through, defers_in_frame}
use Rattle.fiber.proofs.fibers.Fiber.frame_defers.Goals as goal

pub height-above-requires-clause-few : goal.height-above-requires-clause-few
height-above-requires-clause-few c =
    let all = few _ _ _ _ _ c.self.view_is c.requires c.from-from.ensures in
    omega (arith, all)

pub height-above-requires-clause-small : goal.height-above-requires-clause-small
height-above-requires-clause-small c =
    let all = few _ _ _ _ _ c.self.view_is c.requires c.from-from.ensures in
    omega (arith, all, c.self.invariant.few)

pub height-requires-clause-few : goal.height-requires-clause-few
height-requires-clause-few c = few _ _ _ _ _ c.self.view_is c.requires c.from-from.ensures

pub height-requires-clause-small : goal.height-requires-clause-small
height-requires-clause-small c =
    let all = few _ _ _ _ _ c.self.view_is c.requires c.from-from.ensures in
    omega (arith, all, c.self.invariant.few)

pub defers_at-requires-clause-order : goal.defers_at-requires-clause-order
defers_at-requires-clause-order c =
    let all = order _ _ _ _ _ c.self.view_is c.requires c.from-from.ensures in
    omega (arith, all, c.height-above.ensures.all, c.height.ensures.all)

pub defers_at-requires-clause-within : goal.defers_at-requires-clause-within
defers_at-requires-clause-within c = rw c.height.ensures.all
    (through _ _ _ _ _ c.self.view_is c.requires c.from-from.ensures c.self.invariant.high)

pub returns : goal.returns
returns c =
    defers_in_frame _ _ _ _ _ c.self.view_is c.requires c.from-from.ensures _
    (c.defers_at.ensures ∙ ap (λ k. defers_in (k - c.height-above.result) (drop c.height-above.result c.self.inside.levels))
    c.height.ensures.all ∙ ap (λ k. defers_in (height (take c.from-from.result c.self.inside.heads) - k) (drop k c.self.inside.levels))
    c.height-above.ensures.all)
