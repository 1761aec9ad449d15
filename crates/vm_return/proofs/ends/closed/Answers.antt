use Rattle.std.proofs.Common.{◌≡◌, true, false, rules}
use Rattle.vm_running.specs.Runners.{view_of}
use Rattle.vm_return.proofs.Overs.{ending_live, root_ends_so, part_cleared, part_unwinds}
use Rattle.vm_return.proofs.ends.closed.Goals as goal

pub is_part-requires : goal.is_part-requires
is_part-requires g c = ending_live g.W.Waits.pending c.args.born _ c.args.tasks.now c.is_nested.ensures c.requires

pub returns-then-not-is_part : goal.returns-then-not-is_part
returns-then-not-is_part g c =
    let not_so : c.is_part.result ≡ false = search rules in
    root_ends_so g.W.Waits.pending c.args.born c.args.value (view_of g.H.Heap.state c.args.run.now) c.args.tasks.now c.is_part.result
    c.is_nested.ensures c.is_part.ensures _ not_so

pub unwind-requires : goal.unwind-requires
unwind-requires g c =
    let so : c.is_part.result ≡ true = search rules in
    part_cleared g.W.Waits.pending c.args.born c.args.value (view_of g.H.Heap.state c.args.run.now) c.args.tasks.now c.is_part.result
    c.is_nested.ensures c.is_part.ensures _ c.in_ok-cancel.ensures.ok so c.requires

pub returns : goal.returns
returns g c =
    let so : c.is_part.result ≡ true = search rules in
    part_unwinds g.W.Waits.pending c.args.born c.args.value (view_of g.H.Heap.state c.args.run.now) c.args.tasks.now c.is_part.result
    c.is_nested.ensures c.is_part.ensures _ c.in_ok-cancel.ensures.ok c.unwind.result _ _ so c.unwind.ensures
