use Rattle.std.proofs.Common.{◌≡◌}
use Rattle.lower_expr.specs.Locals.{scope_of}
use Rattle.lower_parts.proofs.Facts.{left_holes}
use Rattle.note_stretches.specs.Noted.{noted, walked}
use Rattle.note_values.proofs.Holes.{holes_walk}
use Rattle.note_values.proofs.texts.all.Given as goal

-- what is left, from here on, ends as all does from the start
abbrev pub invariant-parts : goal.invariant-parts
invariant-parts g l =
    let p = l.noter.tables.now.program.now in
    (scope_of l.scopes ≡ scope_of l.fn.scopes)
    × (walked (holes_walk p (left_holes l.parts l.part-index) (scope_of l.fn.scopes) l.here) (noted l.noting)
    ≡ walked (holes_walk p (left_holes l.parts 0) (scope_of l.fn.scopes) l.fn.around) (noted l.fn.noting))
