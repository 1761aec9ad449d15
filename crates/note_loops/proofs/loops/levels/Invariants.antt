use Rattle.std.proofs.Common.{◌≡◌, map}
use Rattle.verse_tree.specs.View.{tree_of, trees}
use Rattle.lower_code.specs.Scopes.{Scope}
use Rattle.lower_expr.specs.Locals.{scope_of}
use Rattle.lower_parts.specs.Parts.{Grown}
use Rattle.lower_parts.proofs.Operands.{left}
use Rattle.lower_notes.specs.Stretches.{Walk}
use Rattle.note_states.specs.View.{standing_of}
use Rattle.note_stretches.specs.Noted.{noted, walked}
use Rattle.note_loops.specs.Turns.{turns_closed}
use Rattle.note_loops.specs.Walks.{levels_walk}
use Rattle.note_loops.proofs.loops.levels.Given as goal

-- what is left, from here on, ends as all does from the start
abbrev pub invariant-parts : goal.invariant-parts
invariant-parts g l =
    Grown (scope_of l.fn.scopes) (scope_of l.scopes)
    × ((rest : Scope → Walk) →
    turns_closed (map standing_of l.turns.items)
    (walked (levels_walk l.noter.tables.now.program.now (left l.parts l.part-index) (scope_of l.scopes) l.around rest)
    (noted l.noting))
    ≡ turns_closed (map standing_of l.fn.turns.items)
    (walked (levels_walk l.noter.tables.now.program.now (trees (map tree_of l.parts))
    (scope_of l.fn.scopes) l.fn.around rest)
    (noted l.fn.noting)))
