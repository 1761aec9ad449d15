use Rattle.std.proofs.Common.{◌≡◌, map, drop}
use Rattle.verse_tree.specs.View.{tree_of, trees}
use Rattle.lower_expr.specs.Locals.{scope_of}
use Rattle.note_stretches.specs.Noted.{noted, walked}
use Rattle.note_parts.specs.Parts.{operands_walk}
use Rattle.note_parts.proofs.noter.Noter.operands.Given as goal

-- what is left, from here on, ends as all does from the start
abbrev pub invariant-parts : goal.invariant-parts
invariant-parts g l =
    (scope_of l.scopes ≡ scope_of l.fn.scopes)
    × (walked (operands_walk l.self.tables.now.program.now (trees (map tree_of (drop l.part-index l.parts))) (scope_of l.fn.scopes)
    l.above) (noted l.noting)
    ≡ walked (operands_walk l.self.tables.now.program.now (trees (map tree_of l.parts)) (scope_of l.fn.scopes) l.fn.around)
    (noted l.fn.noting))
