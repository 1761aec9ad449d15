use Rattle.std.proofs.Common.{◌≡◌, ◌+◌, length, sym, ap, ◌∙◌}
use Rattle.std.proofs.lemmas.List.{length-reverse}
use Rattle.fiber_stacks.specs.Levels.{noted_in}
use Rattle.fiber_stacks.specs.Heads.{bounds_on}
use Rattle.fiber.proofs.Framed.{levels_enough, noted_are}
use Rattle.fiber.proofs.fibers.Fiber.noted.Goals as goal

pub noted-requires : goal.noted-requires
noted-requires c =
    let size : length c.bounds.result.now ≡ length (bounds_on c.self.inside.heads) =
    sym (length-reverse c.bounds.result.now) ∙ ap length c.bounds.ensures in
    rw size (levels_enough _ _ _ c.self.view_is c.self.invariant.high c.requires)

pub returns : goal.returns
returns c =
    let size : length c.bounds.result.now ≡ length (bounds_on c.self.inside.heads) =
    sym (length-reverse c.bounds.result.now) ∙ ap length c.bounds.ensures in
    c.noted.ensures ∙ ap (λ n. length (noted_in (n + 1) c.self.inside.levels)) size ∙ ap length (noted_are _ _ _ c.self.view_is c.requires)
