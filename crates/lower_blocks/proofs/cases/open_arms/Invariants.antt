use Rattle.std.proofs.Common.{◌≡◌, map, length}
use Rattle.verse_tree.specs.View.{tree_of, trees}
use Rattle.lower_expr.specs.Building.{built, made}
use Rattle.lower_expr.specs.Locals.{scope_of}
use Rattle.lower_fail.specs.Attempts.{all_ended}
use Rattle.lower_blocks.specs.Arms.{arms_code}
use Rattle.lower_blocks.proofs.cases.open_arms.Given as goal

-- what is left, from here on, ends as all does from the start
abbrev pub invariant-arms : goal.invariant-arms
invariant-arms g l =
    (scope_of l.scopes ≡ scope_of l.fn.scopes)
    × (all_ended l.jumps.items
    (made (arms_code l.lowering.tables.now.program.now (trees (map tree_of l.rest)) l.local
    (scope_of l.fn.scopes) l.around)
    (built l.builder))
    ≡ all_ended l.fn.jumps.items
    (made (arms_code l.lowering.tables.now.program.now (trees (map tree_of l.parts)) l.local
    (scope_of l.fn.scopes) l.fn.around)
    (built l.fn.builder)))

abbrev pub decreases-arms : goal.decreases-arms
decreases-arms g l = length l.rest
