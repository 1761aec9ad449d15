use Rattle.std.proofs.Common.{◌≡◌, ◌≤◌, ◌<◌, ℕ, drop}
use Rattle.fiber.specs.Bounding.{within}
use Rattle.fiber.proofs.bounding.window_of.Given as goal

abbrev pub invariant-handlers : goal.invariant-handlers
invariant-handlers l = (q : ℕ) → l.low ≤ q → q < l.high → within (drop l.bound-index l.bounds) q ≡ within l.bounds q
