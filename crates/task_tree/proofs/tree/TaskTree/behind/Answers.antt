use Rattle.std.proofs.Common.{ap, sym, ◌∙◌}
use Rattle.task_tree.proofs.Linking.{behind_is, head_is, leads}
use Rattle.task_tree.proofs.tree.TaskTree.behind.Goals as goal

pub returns-in_err-links_at-in-Some : goal.returns-in_err-links_at-in-Some
returns-in_err-links_at-in-Some g c = λ front back was end.
    c.from_residual.ensures ∙ (sym (ap (leads (λ l. l.behind)) c.in_err-links_at-in-Some.was) ∙
    (ap (leads (λ l. l.behind)) c.links_at.ensures ∙
    behind_is _ _ _ c.in-Some.id _ c.self.invariant.linked c.self.view_is c.in-Some.is front back was end))

pub returns-in_ok-links_at-in-Some : goal.returns-in_ok-links_at-in-Some
returns-in_ok-links_at-in-Some g c = λ front back was end.
    sym (ap (leads (λ l. l.behind)) c.in_ok-links_at-in-Some.was) ∙
    (ap (leads (λ l. l.behind)) c.links_at.ensures ∙
    behind_is _ _ _ c.in-Some.id _ c.self.invariant.linked c.self.view_is c.in-Some.is front back was end)

pub returns-in-None : goal.returns-in-None
returns-in-None g c = λ front back was end. head_is _ _ _ _ c.self.invariant.head_is c.self.view_is c.in-None.is front back was end
