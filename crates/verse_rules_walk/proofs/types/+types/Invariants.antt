use Rattle.std.proofs.Common.{◌≡◌, map, drop}
use Rattle.verse_tree.specs.View.{written_of, writtens}
use Rattle.verse_rules_walk.specs.Through.{through_writtens}
use Rattle.verse_rules_walk.specs.Views.{around_of}
use Rattle.verse_rules_walk.proofs.types.+types.Given as goal

-- what is left, from here on, ends as all does from the start
abbrev pub invariant-walk_types-parts : goal.invariant-walk_types-parts
invariant-walk_types-parts g l =
    let w = around_of l.around in
    let step = g.P.Pass.step l.pass in
    through_writtens step w (writtens (map written_of (drop l.part-index l.parts))) (g.P.Pass.sight l.seen) ≡
    through_writtens step w (writtens (map written_of l.parts)) (g.P.Pass.sight l.fn.seen)
