use Rattle.std.proofs.Common.{◌≡◌, map}
use Rattle.verse_tree.specs.View.{tree_of, trees}
use Rattle.lower_code.specs.Pieces.{Maker}
use Rattle.lower_code.specs.Scopes.{Scope}
use Rattle.lower_expr.specs.Building.{built, made}
use Rattle.lower_expr.specs.Locals.{scope_of}
use Rattle.lower_fail.specs.Attempts.{turns_closed}
use Rattle.lower_parts.proofs.Operands.{left}
use Rattle.lower_blocks.specs.Codes.{levels_code}
use Rattle.lower_parts.specs.Parts.{Grown}
use Rattle.lower_blocks.proofs.loops.levels.Given as goal

-- what is left, from here on, ends as all does from the start
abbrev pub invariant-parts : goal.invariant-parts
invariant-parts g l =
    Grown (scope_of l.fn.scopes) (scope_of l.scopes)
    × ((rest : Scope → Maker) →
    turns_closed l.turns.items
    (made (levels_code l.lowering.tables.now.program.now (left l.parts l.part-index) (scope_of l.scopes) l.around rest)
    (built l.builder))
    ≡ turns_closed l.fn.turns.items
    (made (levels_code l.lowering.tables.now.program.now (trees (map tree_of l.parts))
    (scope_of l.fn.scopes) l.fn.around rest)
    (built l.fn.builder)))
