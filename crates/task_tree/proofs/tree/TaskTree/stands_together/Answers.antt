use Rattle.std.proofs.Common.{subst}
use Rattle.task_tree.specs.Nested.{IsTree}
use Rattle.task_tree.proofs.Under.{stands_so}
use Rattle.task_tree.proofs.tree.TaskTree.stands_together.Goals as goal

pub returns : goal.returns
returns g c = stands_so c.args.self.now c.args.id (subst IsTree c.self.view_is c.self.invariant.tree) c.requires
