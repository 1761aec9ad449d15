use Rattle.task_tree.proofs.Linking.{empty_whole}
use Rattle.task_tree.proofs.tree.TaskTree.new.Goals as goal

pub invariant_of-result : goal.invariant_of-result
invariant_of-result g c = empty_whole c.new.result c.new.ensures.empty
