use Rattle.std.proofs.Common.{◌≡◌, length, true}
use Rattle.fiber.specs.Frames.{is_guarded}
use Rattle.fiber.specs.Calls.{unwound}
use Rattle.fiber.proofs.fibers.Fiber.leave_bare.Given as goal

abbrev pub invariant-frames : goal.invariant-frames
invariant-frames l = (is_guarded l.self ≡ true) × (unwound l.self ≡ unwound l.fn.self)

abbrev pub decreases-frames : goal.decreases-frames
decreases-frames l = length l.self
