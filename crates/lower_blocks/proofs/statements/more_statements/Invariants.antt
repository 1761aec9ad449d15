use Rattle.std.proofs.Common.{◌≡◌, map}
use Rattle.verse_tree.specs.View.{tree_of, trees}
use Rattle.lower_code.specs.Lowering.{scope_behind}
use Rattle.lower_expr.specs.Building.{built, made}
use Rattle.lower_expr.specs.Locals.{scope_of}
use Rattle.lower_parts.proofs.Operands.{left}
use Rattle.lower_blocks.specs.Codes.{more_code}
use Rattle.lower_blocks.proofs.statements.more_statements.Given as goal

-- what is left, from here on, ends as all does from the start
abbrev pub invariant-parts : goal.invariant-parts
invariant-parts g l =
    (scope_behind (left l.parts l.part-index) (scope_of l.scopes) ≡
    scope_behind (trees (map tree_of l.parts)) (scope_of l.fn.scopes))
    × (made (more_code l.lowering.tables.now.program.now (left l.parts l.part-index) (scope_of l.scopes) l.behind)
    (built l.builder)
    ≡ made (more_code l.lowering.tables.now.program.now (trees (map tree_of l.parts))
    (scope_of l.fn.scopes) l.fn.around)
    (built l.fn.builder))
