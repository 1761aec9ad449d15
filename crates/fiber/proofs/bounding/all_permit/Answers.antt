use Rattle.std.proofs.Common.{sym, ◌∙◌}
use Rattle.fiber.proofs.Bounded.{refused, passed}
use Rattle.fiber.proofs.bounding.all_permit.Goals as goal

pub returns-then-not-permits : goal.returns-then-not-permits
returns-then-not-permits c = refused _ _ _ _ c.handlers.invariant c.handlers-test.true (sym c.permits.ensures ∙ c.if-not-permits.true)

pub returns : goal.returns
returns c = passed _ _ _ c.handlers.invariant c.handlers-test.false
