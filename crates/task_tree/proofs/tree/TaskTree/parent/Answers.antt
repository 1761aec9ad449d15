use Rattle.std.proofs.Common.{None, Some, ap, ◌∙◌}
use Rattle.task_tree.proofs.Linking.{seen, parent_in}
use Rattle.task_tree.proofs.tree.TaskTree.parent.Goals as goal

pub returns-in_err-get : goal.returns-in_err-get
returns-in_err-get g c =
    c.from_residual.ensures ∙ ap parent_in (seen _ _ _ c.args.id c.self.invariant.linked c.self.view_is c.get.result None c.get.ensures
    c.in_err-get.was)

pub returns : goal.returns
returns g c = ap parent_in (seen _ _ _ c.args.id c.self.invariant.linked c.self.view_is c.get.result
    (Some c.in_ok-get.field-0) c.get.ensures c.in_ok-get.was)
