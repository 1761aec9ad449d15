use Rattle.std.proofs.Common.{◌≡◌}
use Rattle.lower_expr.specs.Building.{built}
use Rattle.lower_expr.specs.Locals.{scope_of}
use Rattle.lower_parts.proofs.Operands.{left}
use Rattle.lower_calls.specs.Parts.{arms_lowered}
use Rattle.lower_calls.proofs.tasks.arms.Given as goal

-- what is left, from here on, ends as all does from the start
abbrev pub invariant-parts : goal.invariant-parts
invariant-parts g l =
    (scope_of l.scopes ≡ scope_of l.fn.scopes)
    × (arms_lowered l.lowering.tables.now.program.now (scope_of l.fn.scopes) (left l.parts l.part-index) l.at
    (built l.builder)
    ≡ arms_lowered l.lowering.tables.now.program.now (scope_of l.fn.scopes) (left l.parts 0) l.fn.first
    (built l.fn.builder))
