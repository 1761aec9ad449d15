use Rattle.std.proofs.Common.{Some, ap, sym, ◌∙◌}
use Rattle.task_tree.specs.Tasks.{youngest}
use Rattle.task_tree.proofs.Linking.{youngest_is, leads}
use Rattle.task_tree.proofs.tree.TaskTree.youngest_child.Goals as goal

pub returns-in_err-links_at-clause-value : goal.returns-in_err-links_at-clause-value
returns-in_err-links_at-clause-value g c =
    c.from_residual.ensures ∙ (sym (ap (leads (λ l. l.youngest)) c.in_err-links_at.was) ∙
    (ap (leads (λ l. l.youngest)) c.links_at.ensures ∙
    (youngest_is _ _ c.args.id c.self.invariant.tree c.self.invariant.linked ∙ ap (youngest (Some c.args.id)) c.self.view_is)))

pub returns-clause-value : goal.returns-clause-value
returns-clause-value g c =
    sym (ap (leads (λ l. l.youngest)) c.in_ok-links_at.was) ∙
    (ap (leads (λ l. l.youngest)) c.links_at.ensures ∙
    (youngest_is _ _ c.args.id c.self.invariant.tree c.self.invariant.linked ∙ ap (youngest (Some c.args.id)) c.self.view_is))
