use Rattle.std.proofs.Common.{◌≡◌, ◌≤◌, length, take}
use Rattle.lower_code.specs.Scopes.{find}
use Rattle.lower_expr.specs.Locals.{scope_of, scope_from}
use Rattle.std.proofs.Common.{[]}
use Rattle.lower_expr.proofs.scopes.Scopes.find.Given as goal

-- the locals that were looked at have other names
abbrev pub invariant-slots : goal.invariant-slots
invariant-slots l = record {
  within : l.left ≤ length l.self.slots.items;
  found : find l.name (scope_from (take l.left l.self.slots.items) []) ≡ find l.name (scope_of l.self);
}

abbrev pub decreases-slots : goal.decreases-slots
decreases-slots l = l.left
