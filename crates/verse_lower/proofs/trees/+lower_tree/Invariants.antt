use Rattle.verse_lower.proofs.trees.+lower_tree.Given as goal

abbrev pub decreases-lower_tree : goal.decreases-lower_tree
decreases-lower_tree l = l.depth
