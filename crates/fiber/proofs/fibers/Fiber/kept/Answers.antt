use Rattle.std.proofs.Common.{◌≡◌, ◌+◌, length, sym, ap, ◌∙◌}
use Rattle.std.proofs.lemmas.List.{length-reverse}
use Rattle.fiber_stacks.specs.Heads.{bounds_on}
use Rattle.fiber.proofs.Framed.{levels_enough, kept_in}
use Rattle.fiber.proofs.fibers.Fiber.kept.Goals as goal

pub kept_defers-requires-clause-few : goal.kept_defers-requires-clause-few
kept_defers-requires-clause-few c =
    let size : length c.bounds.result.now ≡ length (bounds_on c.self.inside.heads) =
    sym (length-reverse c.bounds.result.now) ∙ ap length c.bounds.ensures in
    rw size (levels_enough _ _ _ c.self.view_is c.self.invariant.high c.requires)

pub returns : goal.returns
returns c =
    let size : length c.bounds.result.now ≡ length (bounds_on c.self.inside.heads) =
    sym (length-reverse c.bounds.result.now) ∙ ap length c.bounds.ensures in
    c.kept_defers.ensures ∙ kept_in _ _ _ _ c.self.view_is (ap (λ n. n + 1) size)
