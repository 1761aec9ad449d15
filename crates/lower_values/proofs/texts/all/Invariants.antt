use Rattle.std.proofs.Common.{◌≡◌, ◌+◌}
use Rattle.verse_meaning.specs.Programs.{program_of}
use Rattle.lower_code.specs.Lowering.{holed, joined_parts}
use Rattle.lower_lookup.specs.Types.{differ_of}
use Rattle.lower_expr.specs.Building.{built, made}
use Rattle.lower_expr.specs.Locals.{scope_of}
use Rattle.lower_parts.proofs.Facts.{left_holes}
use Rattle.lower_values.proofs.texts.all.Given as goal

-- what is left, from here on, ends as all does from the start
abbrev pub invariant-parts : goal.invariant-parts
invariant-parts g l =
    let p = l.lowering.tables.now.program.now in
    (scope_of l.scopes ≡ scope_of l.fn.scopes)
    × (made (holed (program_of p) (differ_of p) (left_holes l.parts l.part-index) (scope_of l.fn.scopes) l.here)
    (built l.builder)
    ≡ made (holed (program_of p) (differ_of p) (left_holes l.parts 0) (scope_of l.fn.scopes) l.fn.around)
    (built l.fn.builder))
    × (l.count + joined_parts (left_holes l.parts l.part-index) ≡ joined_parts (left_holes l.parts 0))
