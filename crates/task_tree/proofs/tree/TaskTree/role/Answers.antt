use Rattle.std.proofs.Common.{None, Some, ap, option_map}
use Rattle.task_tree.specs.Tasks.{Task}
use Rattle.task_tree.proofs.Linking.{seen, not_some}
use Rattle.task_tree.proofs.tree.TaskTree.role.Goals as goal

pub unreachable-requires : goal.unreachable-requires
unreachable-requires g c =
    not_some c.args.id c.args.self.now c.requires
    (seen _ _ _ c.args.id c.self.invariant.linked c.self.view_is c.get.result None c.get.ensures c.in-None.is)

pub returns : goal.returns
returns g c = ap (option_map (λ (t : Task _). t.role))
    (seen _ _ _ c.args.id c.self.invariant.linked c.self.view_is c.get.result (Some c.in-Some.node) c.get.ensures c.in-Some.is)
