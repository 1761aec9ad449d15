use Rattle.std.proofs.Common.{◌≡◌}
use Rattle.lower_expr.specs.Locals.{scope_of}
use Rattle.lower_parts.specs.Parts.{Grown}
use Rattle.lower_parts.proofs.Facts.{left_givens}
use Rattle.note_stretches.specs.Noted.{noted, walked}
use Rattle.note_values.proofs.Fields.{givens_walk}
use Rattle.note_values.proofs.instances.all.Given as goal

-- what is left, from here on, ends as all does from the start
abbrev pub invariant-parts : goal.invariant-parts
invariant-parts g l =
    let p = l.noter.tables.now.program.now in
    Grown (scope_of l.fn.scopes) (scope_of l.scopes)
    × (walked (givens_walk p (left_givens l.parts l.part-index) (scope_of l.scopes) l.around) (noted l.noting)
    ≡ walked (givens_walk p (left_givens l.parts 0) (scope_of l.fn.scopes) l.around) (noted l.fn.noting))
