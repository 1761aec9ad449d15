use Rattle.std.proofs.Common.{None, ap, sym, subst, ◌∙◌}
use Rattle.task_tree.specs.Tasks.{youngest, IsLive}
use Rattle.task_tree.specs.Nested.{IsTree}
use Rattle.task_tree.specs.Blocks.{EndsAt}
use Rattle.task_tree.proofs.Under.{no_roots, root_live, below_last}
use Rattle.task_tree.proofs.tree.TaskTree.last.Goals as goal

pub end_below-requires : goal.end_below-requires
end_below-requires g c =
    subst (λ ts. IsLive c.in_ok-self.field-0 ts) c.self.view_is
    (root_live _ c.in_ok-self.field-0 c.self.invariant.tree (sym c.self.invariant.tail_is ∙ c.in_ok-self.was))

pub returns-in_err-self : goal.returns-in_err-self
returns-in_err-self g c =
    subst (λ e. EndsAt c.args.self.now None e) (sym c.from_residual.ensures)
    (no_roots c.args.self.now (subst IsTree c.self.view_is c.self.invariant.tree) (sym (ap (youngest None) c.self.view_is) ∙
    (sym c.self.invariant.tail_is ∙ c.in_err-self.was)))

pub returns : goal.returns
returns g c =
    below_last c.args.self.now c.in_ok-self.field-0 c.end_below.result c.end_below.ensures.nested (sym (ap (youngest None) c.self.view_is) ∙
    (sym c.self.invariant.tail_is ∙ c.in_ok-self.was)) c.end_below.ensures.ends
