use Rattle.std.proofs.Common.{◌≡◌, ◌<◌, [], length, reverse, ap, ◌∙◌, arith, rules}
use Rattle.std.proofs.lemmas.List.{length-reverse}
use Rattle.fiber.proofs.Framed.{bare_in}
use Rattle.fiber.proofs.fibers.Fiber.is_bare.Goals as goal

pub returns-clause-no : goal.returns-clause-no
returns-clause-no c not_so none =
    let empty : reverse c.bounds.result.now ≡ [] = c.bounds.ensures ∙ bare_in _ _ _ c.self.view_is none in
    let some : 0 < length c.bounds.result.now = search (rules, not_so) in
    absurd (omega (arith, some, length-reverse c.bounds.result.now, ap length empty))
