use Rattle.std.proofs.Common.{Some, sym, subst}
use Rattle.task_tree.specs.Blocks.{EndsAt}
use Rattle.task_tree.proofs.Under.{below_parent}
use Rattle.task_tree.proofs.tree.TaskTree.end_of.Goals as goal

pub returns-in-Some : goal.returns-in-Some
returns-in-Some g c =
    subst (λ p. EndsAt c.args.self.now p (Some c.end_below.result)) (sym c.in-Some.is)
    (below_parent c.args.self.now c.in-Some.id c.end_below.result c.end_below.ensures.nested c.end_below.ensures.ends)
