use Rattle.std.proofs.Common.{length}
use Rattle.vm_running.specs.Runners.{view_of}
use Rattle.vm_running.specs.Views.{View}
use Rattle.vm_scheduler.specs.declared.tasks.Tasks.{Tasks}
use Rattle.vm_scheduler.specs.declared.tasks.Went.{Went}
use Rattle.vm_suspend.specs.Idle.{Idle, RestsTo}
use Rattle.vm_suspend.proofs.idle.rest.Given as goal

abbrev pub invariant-above : goal.invariant-above
invariant-above g l =
    Idle g.W.Waits.pending (view_of g.H.Heap.state l.run) l.tasks × ((r : Went) (u : View) (s : Tasks _) →
    RestsTo g.W.Waits.pending r (view_of g.H.Heap.state l.run) l.tasks u s →
    RestsTo g.W.Waits.pending r (view_of g.H.Heap.state l.fn.run) l.fn.tasks u s)

abbrev pub decreases-above : goal.decreases-above
decreases-above g l = length l.tasks.ups.items
