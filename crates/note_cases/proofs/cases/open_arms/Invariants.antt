use Rattle.std.proofs.Common.{◌≡◌, map, length}
use Rattle.verse_tree.specs.View.{tree_of, trees}
use Rattle.lower_expr.specs.Locals.{scope_of}
use Rattle.note_stretches.specs.Noted.{noted, walked}
use Rattle.note_cases.specs.Ends.{end_of, all_ended}
use Rattle.note_cases.specs.Arms.{arms_walk}
use Rattle.note_cases.proofs.cases.open_arms.Given as goal

-- what is left, from here on, ends as all does from the start
abbrev pub invariant-arms : goal.invariant-arms
invariant-arms g l =
    (scope_of l.scopes ≡ scope_of l.fn.scopes)
    × (all_ended (map end_of l.ends.items)
    (walked (arms_walk l.noter.tables.now.program.now (trees (map tree_of l.rest)) l.local
    (scope_of l.fn.scopes) l.around)
    (noted l.noting))
    ≡ all_ended (map end_of l.fn.ends.items)
    (walked (arms_walk l.noter.tables.now.program.now (trees (map tree_of l.parts)) l.local
    (scope_of l.fn.scopes) l.fn.around)
    (noted l.fn.noting)))

abbrev pub decreases-arms : goal.decreases-arms
decreases-arms g l = length l.rest
