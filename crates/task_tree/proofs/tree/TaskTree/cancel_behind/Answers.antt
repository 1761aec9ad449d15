use Rattle.std.proofs.Common.{◌≡◌, None, rules}
use Rattle.task_tree.proofs.Background.{begins, child_live, passes, clears, passes_fewer, clears_fewer, is_over}
use Rattle.task_tree.proofs.tree.TaskTree.cancel_behind.Goals as goal

pub children-init : goal.children-init
children-init g c = begins g.V.Visit.leaves c.args.self.now c.args.id c.args.depth c.youngest_child-next.result c.args.visit.now
    c.youngest_child-next.ensures.nested c.requires c.youngest_child-next.ensures.value

pub is_behind-requires : goal.is_behind-requires
is_behind-requires g c = child_live g.V.Visit.leaves _ _ _ _ c.children.next c.children.self _ c.in-Some.child c.children.invariant
    c.in-Some.is

pub returns : goal.returns
returns g c =
    let none : c.children.next ≡ None = search rules in
    is_over g.V.Visit.leaves c.args.self.now c.args.id c.args.depth c.args.visit.now c.children.next c.children.self c.children.visit
    c.children.invariant none

pub children-smaller-then-is_behind : goal.children-smaller-then-is_behind
children-smaller-then-is_behind g c =
    clears_fewer g.V.Visit.leaves _ _ _ _ c.children.next c.older-next.result c.children.self c.cancel.new.self _ c.in-Some.child
    c.children.invariant c.in-Some.is c.older-next.ensures c.cancel.ensures.0 c.cancel.ensures.1

pub children-preserved-then-is_behind : goal.children-preserved-then-is_behind
children-preserved-then-is_behind g c =
    clears g.V.Visit.leaves c.args.self.now c.args.id c.args.depth c.args.visit.now c.children.next c.older-next.result c.children.self
    c.cancel.new.self c.children.visit c.cancel.new.visit c.in-Some.child c.is_behind.result c.children.invariant c.in-Some.is
    c.older-next.ensures c.is_behind.ensures c.if-is_behind.true c.cancel.ensures.0 c.cancel.ensures.1 c.cancel.ensures.2

pub children-smaller : goal.children-smaller
children-smaller g c = passes_fewer g.V.Visit.leaves _ _ _ _ c.children.next c.older-next.result c.children.self _ c.in-Some.child
    c.children.invariant c.in-Some.is c.older-next.ensures

pub children-preserved : goal.children-preserved
children-preserved g c =
    passes g.V.Visit.leaves c.args.self.now c.args.id c.args.depth c.args.visit.now c.children.next c.older-next.result c.children.self
    c.children.visit c.in-Some.child c.is_behind.result c.children.invariant c.in-Some.is c.older-next.ensures c.is_behind.ensures
    c.if-is_behind.false
