use Rattle.std.proofs.Common.{◌≡◌, drop}
use Rattle.fiber.specs.Bounding.{within}
use Rattle.fiber.proofs.bounding.all_permit.Given as goal

abbrev pub invariant-handlers : goal.invariant-handlers
invariant-handlers l = within (drop l.bound-index l.bounds) l.place ≡ within l.bounds l.place
