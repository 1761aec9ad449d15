use Rattle.note_trees.proofs.trees.+note_tree.Given as goal

abbrev pub decreases-note_tree : goal.decreases-note_tree
decreases-note_tree l = l.depth
