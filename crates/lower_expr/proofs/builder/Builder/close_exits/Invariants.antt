use Rattle.std.proofs.Common.{◌≡◌, drop}
use Rattle.lower_expr.specs.Building.{built, all_closed}
use Rattle.lower_expr.proofs.builder.Builder.close_exits.Given as goal

-- what is left, from here on, ends as all does from the start
abbrev pub invariant-exits : goal.invariant-exits
invariant-exits l = record {
  exits : (built l.self).exits ≡ (built l.fn.self).exits;
  closed : all_closed (drop l.exit (built l.fn.self).exits) l.out (built l.self) ≡
      all_closed (drop l.mark (built l.fn.self).exits) l.out (built l.fn.self);
}
