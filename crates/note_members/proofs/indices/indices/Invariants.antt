use Rattle.std.proofs.Common.{◌≡◌}
use Rattle.lower_expr.specs.Locals.{scope_of}
use Rattle.lower_parts.proofs.Operands.{left}
use Rattle.note_sorts.specs.Tabled.{found_of}
use Rattle.note_stretches.specs.Noted.{noted, walked}
use Rattle.note_members.specs.Reads.{indices_walk}
use Rattle.note_members.proofs.indices.indices.Given as goal

-- what is left, from here on, ends as all does from the start
abbrev pub invariant-parts : goal.invariant-parts
invariant-parts g l =
    let p = l.noter.tables.now.program.now in
    let q = (found_of p).sort l.of in
    (scope_of l.scopes ≡ scope_of l.fn.scopes)
    × (walked (indices_walk p q (left l.args l.part-index) (scope_of l.fn.scopes) l.above) (noted l.noting)
    ≡ walked (indices_walk p q (left l.args 0) (scope_of l.fn.scopes) l.fn.around) (noted l.fn.noting))
