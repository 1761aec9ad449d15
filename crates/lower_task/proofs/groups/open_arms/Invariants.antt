use Rattle.std.proofs.Common.{◌≡◌, ◌-◌}
use Rattle.lower_expr.specs.Building.{built}
use Rattle.lower_task.specs.Tasks.{arms_open}
use Rattle.lower_task.proofs.groups.open_arms.Given as goal

abbrev pub invariant-arms : goal.invariant-arms
invariant-arms l = arms_open (l.count - l._arm) (built l.builder) ≡ arms_open l.count (built l.fn.builder)
