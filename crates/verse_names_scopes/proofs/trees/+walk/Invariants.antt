use Rattle.std.proofs.Common.{◌≡◌, map, drop}
use Rattle.verse_tree.specs.View.{tree_of, hole_of, pair_of, given_of, trees, holes, pairs, givens}
use Rattle.verse_names_scopes.specs.Scopes.{through_all, through_arms, through_holes, through_pairs, through_givens}
use Rattle.verse_names_scopes.specs.Naming.{noted, cut_back}
use Rattle.verse_names_scopes.specs.Views.{world_of, naming_of}
use Rattle.verse_names_scopes.proofs.trees.+walk.Given as goal

-- what is left, from here on, ends as all does from the start

abbrev pub invariant-walk_all-parts : goal.invariant-walk_all-parts
invariant-walk_all-parts l =
    let ends = through_all (noted (world_of l.world)) cut_back in
    ends (trees (map tree_of (drop l.part-index l.parts))) (naming_of l.naming) ≡ ends (trees (map tree_of l.parts)) (naming_of l.fn.naming)

abbrev pub invariant-walk_arms-parts : goal.invariant-walk_arms-parts
invariant-walk_arms-parts l =
    let ends = through_arms (noted (world_of l.world)) cut_back in
    ends (trees (map tree_of (drop l.part-index l.parts))) (naming_of l.naming) ≡ ends (trees (map tree_of l.parts)) (naming_of l.fn.naming)

abbrev pub invariant-walk_holes-parts : goal.invariant-walk_holes-parts
invariant-walk_holes-parts l =
    let ends = through_holes (noted (world_of l.world)) cut_back in
    ends (holes (map hole_of (drop l.part-index l.parts))) (naming_of l.naming) ≡ ends (holes (map hole_of l.parts)) (naming_of l.fn.naming)

abbrev pub invariant-walk_pairs-parts : goal.invariant-walk_pairs-parts
invariant-walk_pairs-parts l =
    let ends = through_pairs (noted (world_of l.world)) cut_back in
    ends (pairs (map pair_of (drop l.part-index l.parts))) (naming_of l.naming) ≡ ends (pairs (map pair_of l.parts)) (naming_of l.fn.naming)

abbrev pub invariant-walk_givens-parts : goal.invariant-walk_givens-parts
invariant-walk_givens-parts l =
    let ends = through_givens (noted (world_of l.world)) cut_back in
    ends (givens (map given_of (drop l.part-index l.parts))) (naming_of l.naming) ≡
    ends (givens (map given_of l.parts)) (naming_of l.fn.naming)
