use Rattle.std.proofs.Common.{◌≡◌, length}
use Rattle.lower_expr.specs.Locals.{scope_of, cut_to}
use Rattle.lower_expr.proofs.scopes.Scopes.cut.Given as goal

abbrev pub invariant-slots : goal.invariant-slots
invariant-slots l = cut_to l.count (scope_of l.self) ≡ cut_to l.count (scope_of l.fn.self)

abbrev pub decreases-slots : goal.decreases-slots
decreases-slots l = length l.self.slots.items
