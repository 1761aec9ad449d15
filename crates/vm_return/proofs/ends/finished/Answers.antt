use Rattle.vm_running.specs.Runners.{view_of}
use Rattle.vm_return.proofs.Overs.{ending_live, part_returns, root_cleared, root_unwinds}
use Rattle.vm_return.proofs.ends.finished.Goals as goal

pub is_part-requires : goal.is_part-requires
is_part-requires g c = ending_live g.W.Waits.pending c.args.born _ c.args.tasks.now c.is_nested.ensures c.requires

pub returns-then-is_part : goal.returns-then-is_part
returns-then-is_part g c = part_returns g.W.Waits.pending c.args.born c.args.value (view_of g.H.Heap.state c.args.run.now) c.args.tasks.now
    c.is_part.result c.is_nested.ensures c.is_part.ensures _ c.if-is_part.true

pub unwind-requires : goal.unwind-requires
unwind-requires g c =
    root_cleared g.W.Waits.pending c.args.born c.args.value (view_of g.H.Heap.state c.args.run.now) c.args.tasks.now c.is_part.result
    c.is_nested.ensures c.is_part.ensures _ c.in_ok-cancel.ensures.ok c.if-is_part.false c.requires

pub returns : goal.returns
returns g c =
    root_unwinds g.W.Waits.pending c.args.born c.args.value (view_of g.H.Heap.state c.args.run.now) c.args.tasks.now c.is_part.result
    c.is_nested.ensures c.is_part.ensures _ c.in_ok-cancel.ensures.ok c.unwind.result _ _ c.if-is_part.false c.unwind.ensures
