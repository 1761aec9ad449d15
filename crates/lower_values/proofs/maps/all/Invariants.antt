use Rattle.std.proofs.Common.{◌≡◌}
use Rattle.verse_meaning.specs.Programs.{program_of}
use Rattle.lower_code.specs.Lowering.{paired_args}
use Rattle.lower_lookup.specs.Types.{differ_of}
use Rattle.lower_expr.specs.Building.{built, made}
use Rattle.lower_expr.specs.Locals.{scope_of}
use Rattle.lower_parts.proofs.Facts.{left_pairs}
use Rattle.lower_values.proofs.maps.all.Given as goal

-- what is left, from here on, ends as all does from the start
abbrev pub invariant-parts : goal.invariant-parts
invariant-parts g l =
    let p = l.lowering.tables.now.program.now in
    (scope_of l.scopes ≡ scope_of l.fn.scopes)
    × (made (paired_args (program_of p) (differ_of p) (left_pairs l.parts l.part-index) (scope_of l.fn.scopes) l.here)
    (built l.builder)
    ≡ made (paired_args (program_of p) (differ_of p) (left_pairs l.parts 0) (scope_of l.fn.scopes) l.fn.around)
    (built l.fn.builder))
