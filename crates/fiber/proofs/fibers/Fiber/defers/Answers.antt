use Rattle.std.proofs.Common.{◌≡◌, ◌+◌, length, sym, ap, ◌∙◌}
use Rattle.std.proofs.lemmas.List.{length-reverse}
use Rattle.fiber_stacks.specs.Levels.{defers_in}
use Rattle.fiber_stacks.specs.Heads.{bounds_on}
use Rattle.fiber.proofs.Framed.{levels_enough, defers_are}
use Rattle.fiber.proofs.fibers.Fiber.defers.Goals as goal

pub defers-requires : goal.defers-requires
defers-requires c =
    let size : length c.bounds.result.now ≡ length (bounds_on c.self.inside.heads) =
    sym (length-reverse c.bounds.result.now) ∙ ap length c.bounds.ensures in
    rw size (levels_enough _ _ _ c.self.view_is c.self.invariant.high c.requires)

pub returns : goal.returns
returns c =
    let size : length c.bounds.result.now ≡ length (bounds_on c.self.inside.heads) =
    sym (length-reverse c.bounds.result.now) ∙ ap length c.bounds.ensures in
    c.defers.ensures ∙ ap (λ n. length (defers_in (n + 1) c.self.inside.levels)) size ∙
    ap length (defers_are _ _ _ c.self.view_is c.requires)
