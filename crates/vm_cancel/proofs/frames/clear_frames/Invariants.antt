use Rattle.std.proofs.Common.{length}
use Rattle.vm_running.specs.Runners.{view_of}
use Rattle.vm_running.specs.Views.{View}
use Rattle.vm_scheduler.specs.declared.tasks.Went.{Went}
use Rattle.vm_scheduler.specs.Frames.{Unguarded}
use Rattle.vm_cancel.specs.Clears.{ClearsFrames}
use Rattle.vm_cancel.proofs.frames.clear_frames.Given as goal

abbrev pub invariant-frames : goal.invariant-frames
invariant-frames g l =
    Unguarded l.thread × ((r : Went) (u : View) → ClearsFrames l.thread r (view_of g.H.Heap.state l.fn.run) u →
    ClearsFrames l.fn.thread r (view_of g.H.Heap.state l.fn.run) u)

abbrev pub decreases-frames : goal.decreases-frames
decreases-frames g l = length l.thread
