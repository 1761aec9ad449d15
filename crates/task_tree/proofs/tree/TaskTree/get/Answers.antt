use Rattle.std.proofs.Common.{None, Some, ap, option_map}
use Rattle.task_tree.specs.Tasks.{Task}
use Rattle.task_tree.proofs.Linking.{seen}
use Rattle.task_tree.proofs.tree.TaskTree.get.Goals as goal

pub returns-in-Some : goal.returns-in-Some
returns-in-Some g c = ap (option_map (λ (t : Task _). t.item))
    (seen _ _ _ c.args.id c.self.invariant.linked c.self.view_is c.get.result (Some c.in-Some.node) c.get.ensures c.in-Some.is)

pub returns-in-None : goal.returns-in-None
returns-in-None g c = ap (option_map (λ (t : Task _). t.item))
    (seen _ _ _ c.args.id c.self.invariant.linked c.self.view_is c.get.result None c.get.ensures c.in-None.is)
