use Rattle.std.proofs.Common.{◌≡◌, ◌≤◌, ◌+◌, length}
use Rattle.vm_running.specs.Runners.{view_of}
use Rattle.vm_running.specs.Views.{View}
use Rattle.vm_scheduler.specs.declared.tasks.Tasks.{Tasks}
use Rattle.vm_scheduler.specs.declared.tasks.Went.{Went}
use Rattle.vm_scheduler.specs.Frames.{AllUnguarded}
use Rattle.vm_cancel.specs.Clears.{ClearsAll}
use Rattle.vm_cancel.proofs.clears.clear.Given as goal

abbrev pub invariant-tasks : goal.invariant-tasks
invariant-tasks g l =
    (l.tasks.after ≡ l.fn.tasks.after) × AllUnguarded l.tasks.gone.frames.items × (l.run.left + l.run.spent ≤ 18446744073709551615) ×
    ((r : Went) (u : View) (s : Tasks _) → ClearsAll r (view_of g.H.Heap.state l.run) l.tasks u s →
    ClearsAll r (view_of g.H.Heap.state l.fn.run) l.fn.tasks u s)

abbrev pub decreases-tasks : goal.decreases-tasks
decreases-tasks g l = length l.tasks.gone.frames.items
