use Rattle.std.proofs.Common.{◌≡◌, None, rules}
use Rattle.task_tree.proofs.Cancelling.{begins, is_live, is_childless, goes_on, gets_shorter, is_over}
use Rattle.task_tree.proofs.tree.TaskTree.cancel.Goals as goal

pub tasks-init : goal.tasks-init
tasks-init g c = begins g.V.Visit.leaves c.args.self.now c.args.id c.end_below.result c.args.visit.now c.end_below.ensures.nested
    c.end_below.ensures.ends

pub take-node-requires-clause-live : goal.take-node-requires-clause-live
take-node-requires-clause-live g c = is_live g.V.Visit.leaves _ _ c.in-Some.at _ c.tasks.next c.tasks.self _ c.tasks.invariant c.in-Some.is

pub take-node-requires-clause-childless : goal.take-node-requires-clause-childless
take-node-requires-clause-childless g c = is_childless g.V.Visit.leaves _ _ c.in-Some.at _ c.tasks.next c.tasks.self _ c.tasks.invariant
    c.in-Some.is

pub tasks-smaller : goal.tasks-smaller
tasks-smaller g c = gets_shorter g.V.Visit.leaves _ _ c.in-Some.at _ c.tasks.next c.tasks.self c.take-node.new.self _ c.tasks.invariant
    c.in-Some.is c.take-node.ensures.left

pub tasks-preserved : goal.tasks-preserved
tasks-preserved g c =
    goes_on g.V.Visit.leaves _ _ c.in-Some.at _ c.tasks.next c.before_within-next.result c.tasks.self c.take-node.new.self c.tasks.visit
    c.removed.new.self c.take-node.result c.tasks.invariant c.in-Some.is c.before_within-next.ensures c.take-node.ensures.left
    c.take-node.ensures.nested c.take-node.ensures.value c.removed.ensures

pub returns : goal.returns
returns g c =
    let none : c.tasks.next ≡ None = search rules in
    is_over g.V.Visit.leaves c.args.self.now c.args.id c.args.visit.now c.tasks.next c.tasks.self c.tasks.visit c.tasks.invariant none
