use Rattle.std.proofs.Common.{◌≡◌, None, sym, ◌∙◌, rules}
use Rattle.task_tree.proofs.Ending.{starts, goes_down, falls, arrives}
use Rattle.task_tree.proofs.tree.TaskTree.end_below.Goals as goal

pub down-init : goal.down-init
down-init g c = λ tree. starts c.args.self.now c.args.id tree c.requires

pub down-preserved : goal.down-preserved
down-preserved g c = λ tree. goes_down c.args.self.now c.args.id c.down.at c.in-Some.child (c.down.invariant tree)
    (sym c.youngest_child.ensures.value ∙ c.in-Some.is)

pub down-smaller : goal.down-smaller
down-smaller g c = falls c.args.self.now c.args.id c.down.at c.in-Some.child (c.down.invariant c.youngest_child.ensures.nested)
    (sym c.youngest_child.ensures.value ∙ c.in-Some.is)

pub returns-clause-ends : goal.returns-clause-ends
returns-clause-ends g c =
    let none : c.youngest_child.result ≡ None = search rules in
    arrives c.args.self.now c.args.id c.down.at (c.down.invariant c.youngest_child.ensures.nested) (sym c.youngest_child.ensures.value ∙
    none)
