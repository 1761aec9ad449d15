use Rattle.task_tree.proofs.Linking.{walk_is, whole_walk}
use Rattle.task_tree.proofs.Changing.{role_changed}
use Rattle.task_tree.proofs.tree.TaskTree.leave_behind.Goals as goal

pub invariant_of-self : goal.invariant_of-self
invariant_of-self g c =
    whole_walk _ _ _ _ (role_changed _ _ _ _ _ _ c.args.id c.args.depth c.self.invariant c.self.view_is c.requires c.change_at.ensures)

pub returns : goal.returns
returns g c =
    walk_is _ _ _ _ (role_changed _ _ _ _ _ _ c.args.id c.args.depth c.self.invariant c.self.view_is c.requires c.change_at.ensures)
