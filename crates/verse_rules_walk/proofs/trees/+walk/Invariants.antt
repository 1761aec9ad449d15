use Rattle.std.proofs.Common.{◌≡◌, map, drop}
use Rattle.verse_tree.specs.View.{tree_of, hole_of, pair_of, given_of, trees, holes, pairs, givens}
use Rattle.verse_rules_walk.specs.Through.{through_trees, through_arguments, through_holes, through_pairs, through_givens}
use Rattle.verse_rules_walk.specs.Views.{around_of}
use Rattle.verse_rules_walk.proofs.trees.+walk.Given as goal

-- what is left, from here on, ends as all does from the start

abbrev pub invariant-walk_all-parts : goal.invariant-walk_all-parts
invariant-walk_all-parts g l =
    let w = around_of l.around in
    let step = g.P.Pass.step l.pass in
    through_trees step w (trees (map tree_of (drop l.part-index l.parts))) (g.P.Pass.sight l.seen) ≡
    through_trees step w (trees (map tree_of l.parts)) (g.P.Pass.sight l.fn.seen)

abbrev pub invariant-walk_holes-parts : goal.invariant-walk_holes-parts
invariant-walk_holes-parts g l =
    let w = around_of l.around in
    let step = g.P.Pass.step l.pass in
    through_holes step w (holes (map hole_of (drop l.part-index l.parts))) (g.P.Pass.sight l.seen) ≡
    through_holes step w (holes (map hole_of l.parts)) (g.P.Pass.sight l.fn.seen)

abbrev pub invariant-walk_pairs-parts : goal.invariant-walk_pairs-parts
invariant-walk_pairs-parts g l =
    let w = around_of l.around in
    let step = g.P.Pass.step l.pass in
    through_pairs step w (pairs (map pair_of (drop l.part-index l.parts))) (g.P.Pass.sight l.seen) ≡
    through_pairs step w (pairs (map pair_of l.parts)) (g.P.Pass.sight l.fn.seen)

abbrev pub invariant-walk_givens-parts : goal.invariant-walk_givens-parts
invariant-walk_givens-parts g l =
    let w = around_of l.around in
    let step = g.P.Pass.step l.pass in
    through_givens step w (givens (map given_of (drop l.part-index l.parts))) (g.P.Pass.sight l.seen) ≡
    through_givens step w (givens (map given_of l.parts)) (g.P.Pass.sight l.fn.seen)

abbrev pub invariant-walk_arguments-parts : goal.invariant-walk_arguments-parts
invariant-walk_arguments-parts g l =
    let w = around_of l.around in
    let step = g.P.Pass.step l.pass in
    record {
      place : l.place ≡ l.part-index;
      rest : through_arguments step w l.callee l.place (trees (map tree_of (drop l.part-index l.parts))) (g.P.Pass.sight l.seen) ≡
          through_arguments step w l.callee 0 (trees (map tree_of l.parts)) (g.P.Pass.sight l.fn.seen);
    }
