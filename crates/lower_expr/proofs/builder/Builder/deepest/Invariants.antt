use Rattle.std.proofs.Common.{◌≡◌, drop}
use Rattle.std.specs.Prelude.{max}
use Rattle.lower_expr.specs.Building.{built, deepest_at}
use Rattle.lower_expr.proofs.builder.Builder.deepest.Given as goal

abbrev pub invariant-exits : goal.invariant-exits
invariant-exits l = max l.deepest (deepest_at (drop l.exit (built l.self).exits) (built l.self).ops) ≡
    deepest_at (drop l.mark (built l.self).exits) (built l.self).ops
