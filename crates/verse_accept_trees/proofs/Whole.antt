-- The law of trees.
use Rattle.verse_tree.specs.Shapes.{as_body}
use Rattle.verse_accept_trees.specs.Laws.{TreesAreFine}
use Rattle.verse_accept_trees.specs.Needs.{Needs}
use Rattle.verse_accept_trees.proofs.Knot.{Here, serves_value, tree_fine}

pub trees_fine : Needs → TreesAreFine
trees_fine laws is arrays events told quiet functions w names a b allows result u e xs d g h k =
    tree_fine is arrays events quiet functions laws told.of_events told.of_arrays w names as_body tt a b
    (record { allows = allows; result = result }) e serves_value xs d g h k
