use Rattle.std.proofs.Common.{◌≡◌}
use Rattle.lower_expr.specs.Locals.{scope_of}
use Rattle.lower_parts.proofs.Operands.{left}
use Rattle.note_states.specs.View.{standing_of}
use Rattle.note_stretches.specs.Noted.{noted, resumed, walked}
use Rattle.note_tasks.specs.Groups.{arms_walk}
use Rattle.note_tasks.proofs.tasks.arms.Given as goal

-- what is left, from here on, ends as all does from the start
abbrev pub invariant-parts : goal.invariant-parts
invariant-parts g l =
    let p = l.noter.tables.now.program.now in
    (scope_of l.scopes ≡ scope_of l.fn.scopes)
    × (walked (arms_walk p (left l.parts l.part-index) (scope_of l.fn.scopes)) (resumed (standing_of l.before) (noted l.noting))
    ≡ walked (arms_walk p (left l.parts 0) (scope_of l.fn.scopes)) (resumed (standing_of l.before) (noted l.fn.noting)))
