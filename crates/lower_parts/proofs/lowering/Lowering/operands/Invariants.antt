use Rattle.std.proofs.Common.{◌≡◌, map, drop}
use Rattle.verse_tree.specs.View.{tree_of, trees}
use Rattle.lower_expr.specs.Building.{built, made}
use Rattle.lower_expr.specs.Locals.{scope_of}
use Rattle.lower_parts.specs.Parts.{operands_code}
use Rattle.lower_parts.proofs.lowering.Lowering.operands.Given as goal

-- what is left, from here on, ends as all does from the start
abbrev pub invariant-parts : goal.invariant-parts
invariant-parts g l =
    (scope_of l.scopes ≡ scope_of l.fn.scopes)
    × (made (operands_code l.self.tables.now.program.now (trees (map tree_of (drop l.part-index l.parts)))
    (scope_of l.fn.scopes)
    l.above) (built l.builder)
    ≡ made (operands_code l.self.tables.now.program.now (trees (map tree_of l.parts))
    (scope_of l.fn.scopes) l.fn.around) (built l.fn.builder))
