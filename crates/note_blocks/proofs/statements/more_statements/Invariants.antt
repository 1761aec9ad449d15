use Rattle.std.proofs.Common.{◌≡◌, map}
use Rattle.verse_tree.specs.View.{tree_of, trees}
use Rattle.lower_code.specs.Lowering.{scope_behind}
use Rattle.lower_expr.specs.Locals.{scope_of}
use Rattle.lower_parts.proofs.Operands.{left}
use Rattle.note_stretches.specs.Noted.{noted, walked}
use Rattle.note_blocks.specs.Walks.{more_walk}
use Rattle.note_blocks.proofs.statements.more_statements.Given as goal

-- what is left, from here on, ends as all does from the start
abbrev pub invariant-parts : goal.invariant-parts
invariant-parts g l =
    (scope_behind (left l.parts l.part-index) (scope_of l.scopes) ≡
    scope_behind (trees (map tree_of l.parts)) (scope_of l.fn.scopes))
    × (walked (more_walk l.noter.tables.now.program.now (left l.parts l.part-index) (scope_of l.scopes) l.behind)
    (noted l.noting)
    ≡ walked (more_walk l.noter.tables.now.program.now (trees (map tree_of l.parts))
    (scope_of l.fn.scopes) l.fn.around)
    (noted l.fn.noting))
