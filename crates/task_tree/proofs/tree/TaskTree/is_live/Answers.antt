use Rattle.std.proofs.Common.{◌∙◌}
use Rattle.task_tree.proofs.Linking.{live_is, tested}
use Rattle.task_tree.proofs.tree.TaskTree.is_live.Goals as goal

pub returns : goal.returns
returns g c = tested c.contains.result _ c.contains.ensures ∙ live_is _ _ _ c.args.id c.self.invariant.linked c.self.view_is
