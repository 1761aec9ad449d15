use Rattle.std.proofs.Common.{◌≡◌, ◌-◌}
use Rattle.lower_expr.specs.Building.{built, dropped}
use Rattle.lower_expr.proofs.builder.Builder.drop_values.Given as goal

abbrev pub invariant-drops : goal.invariant-drops
invariant-drops l = dropped (l.count - l._drop) (built l.self) ≡ dropped l.count (built l.fn.self)
