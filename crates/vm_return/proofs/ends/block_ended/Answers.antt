use Rattle.std.proofs.Common.{sym, ap, ◌∙◌}
use Rattle.vm_running.specs.Runners.{view_of}
use Rattle.vm_return.proofs.Overs.{unwinding_steps, unwinding_frames, never_done, not_down, next_cleared, next_unwinds}
use Rattle.vm_return.proofs.ends.block_ended.Goals as goal

pub clear_frames-requires-clause-unguarded : goal.clear_frames-requires-clause-unguarded
clear_frames-requires-clause-unguarded g c =
    unwinding_frames g.W.Waits.pending _ _ c.args.tasks.now c.replace-thread.ensures.value c.requires

pub clear_frames-requires-clause-steps : goal.clear_frames-requires-clause-steps
clear_frames-requires-clause-steps g c = unwinding_steps g.W.Waits.pending _ c.args.tasks.now c.requires

pub returns-in_default : goal.returns-in_default
returns-in_default g c =
    not_down g.W.Waits.pending (view_of g.H.Heap.state c.args.run.now) c.args.tasks.now _ _ c.replace-thread.ensures.value _ _
    c.in_default.not-Down c.clear_frames.ensures

pub unwind-requires : goal.unwind-requires
unwind-requires g c =
    next_cleared g.W.Waits.pending (view_of g.H.Heap.state c.args.run.now) c.args.tasks.now _ _ c.replace-thread.ensures.value
    c.clear_frames.result _ c.in-Some.after _ c.in-Down.is c.clear_frames.ensures (sym c.take.ensures.value ∙ c.in-Some.is)
    (ap (λ o. record c.args.tasks.now { after = o }) c.take.ensures.after) c.requires

pub returns : goal.returns
returns g c =
    next_unwinds g.W.Waits.pending (view_of g.H.Heap.state c.args.run.now) c.args.tasks.now _ _ c.replace-thread.ensures.value
    c.unwind.result c.clear_frames.result _ _ c.in-Some.after _ _ c.in-Down.is c.clear_frames.ensures
    (sym c.take.ensures.value ∙ c.in-Some.is)
    (ap (λ o. record c.args.tasks.now { after = o }) c.take.ensures.after) c.unwind.ensures

pub unreachable-requires : goal.unreachable-requires
unreachable-requires g c = never_done g.W.Waits.pending _ c.args.tasks.now c.requires (sym c.take.ensures.value ∙ c.in-None.is)
