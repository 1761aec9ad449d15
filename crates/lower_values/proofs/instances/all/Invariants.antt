use Rattle.std.proofs.Common.{◌≡◌}
use Rattle.verse_meaning.specs.Programs.{program_of}
use Rattle.lower_code.specs.Lowering.{given_args}
use Rattle.lower_lookup.specs.Types.{differ_of}
use Rattle.lower_expr.specs.Building.{built, made}
use Rattle.lower_expr.specs.Locals.{scope_of}
use Rattle.lower_parts.specs.Parts.{Grown}
use Rattle.lower_parts.proofs.Facts.{left_givens}
use Rattle.lower_values.proofs.instances.all.Given as goal

-- what is left, from here on, ends as all does from the start
abbrev pub invariant-parts : goal.invariant-parts
invariant-parts g l =
    let p = l.lowering.tables.now.program.now in
    Grown (scope_of l.fn.scopes) (scope_of l.scopes)
    × (made (given_args (program_of p) (differ_of p) (left_givens l.parts l.part-index) (scope_of l.scopes) l.around)
    (built l.builder)
    ≡ made (given_args (program_of p) (differ_of p) (left_givens l.parts 0) (scope_of l.fn.scopes) l.around)
    (built l.fn.builder))
