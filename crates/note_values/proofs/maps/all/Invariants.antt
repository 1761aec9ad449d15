use Rattle.std.proofs.Common.{◌≡◌}
use Rattle.lower_notes.specs.Noting.{key_in}
use Rattle.lower_expr.specs.Locals.{scope_of}
use Rattle.lower_parts.proofs.Facts.{left_pairs}
use Rattle.note_sorts.specs.Tabled.{found_of}
use Rattle.note_stretches.specs.Noted.{noted, walked}
use Rattle.note_values.proofs.Keys.{pairs_walk}
use Rattle.note_values.proofs.maps.all.Given as goal

-- what is left, from here on, ends as all does from the start
abbrev pub invariant-parts : goal.invariant-parts
invariant-parts g l =
    let p = l.noter.tables.now.program.now in
    let key = key_in ((found_of p).sort l.node) in
    (scope_of l.scopes ≡ scope_of l.fn.scopes)
    × (walked (pairs_walk p key (left_pairs l.parts l.part-index) (scope_of l.fn.scopes) l.here) (noted l.noting)
    ≡ walked (pairs_walk p key (left_pairs l.parts 0) (scope_of l.fn.scopes) l.fn.around) (noted l.fn.noting))
