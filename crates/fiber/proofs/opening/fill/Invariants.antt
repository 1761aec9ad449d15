use Rattle.std.proofs.Common.{◌≡◌, ◌≢◌, ◌++◌, []}
use Rattle.fiber_stacks.specs.Heads.{with_locals}
use Rattle.fiber.specs.Opening.{unit_values}
use Rattle.fiber.proofs.opening.fill.Given as goal

abbrev pub invariant-units : goal.invariant-units
invariant-units l = (l.heads ≡ with_locals (l.fn.locals.items ++ unit_values l._i) l.fn.heads) × (l.heads ≢ [])
