use Rattle.std.proofs.Common.{sym}
use Rattle.fiber.proofs.Bounded.{passed}
use Rattle.fiber.proofs.bounding.window_of.Goals as goal

pub returns : goal.returns
returns c q from below = sym (passed _ _ _ (c.handlers.invariant q from below) c.handlers-test.false)
