use Rattle.std.proofs.Common.{ap, sym, ◌∙◌}
use Rattle.task_tree.specs.Tasks.{after}
use Rattle.task_tree.proofs.Linking.{after_is, leads}
use Rattle.task_tree.proofs.tree.TaskTree.after.Goals as goal

pub returns-in_err-links_at : goal.returns-in_err-links_at
returns-in_err-links_at g c =
    c.from_residual.ensures ∙ (sym (ap (leads (λ l. l.behind)) c.in_err-links_at.was) ∙
    (ap (leads (λ l. l.behind)) c.links_at.ensures ∙
    (after_is _ _ c.args.id c.self.invariant.linked ∙ ap (after c.args.id) c.self.view_is)))

pub returns : goal.returns
returns g c =
    sym (ap (leads (λ l. l.behind)) c.in_ok-links_at.was) ∙
    (ap (leads (λ l. l.behind)) c.links_at.ensures ∙
    (after_is _ _ c.args.id c.self.invariant.linked ∙ ap (after c.args.id) c.self.view_is))
