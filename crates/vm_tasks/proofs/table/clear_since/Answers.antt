use Rattle.vm_tasks.proofs.Clearing.{none_cleared, one_cleared, falls}
use Rattle.vm_tasks.proofs.table.clear_since.Goals as goal

pub children-smaller : goal.children-smaller
children-smaller g c =
    falls g.F.Deferring.has_blocks g.W.Waits.pending c.children.tree c.cancel.ensures.0 c.cancel.new.self c.args.id c.args.bound
    c.in-Some.child c.in-Some.ensures.some c.cancel.ensures.1

pub children-preserved : goal.children-preserved
children-preserved g c = λ new after later.
    c.children.invariant new after
    (one_cleared g.F.Deferring.has_blocks g.W.Waits.pending c.children.tree c.cancel.new.self new c.args.id c.args.bound c.in-Some.child
    c.children.gone c.cancel.new.visit after c.cancel.ensures.0 c.in-Some.ensures.nested c.in-Some.ensures.some c.cancel.ensures.1
    c.cancel.ensures.2 later)

pub returns-clause-cleared : goal.returns-clause-cleared
returns-clause-cleared g c =
    c.children.invariant c.children.tree c.children.gone
    (none_cleared g.F.Deferring.has_blocks g.W.Waits.pending c.children.tree c.args.id c.args.bound c.children.gone
    c.in_default.ensures.nested c.in_default.ensures.none)
