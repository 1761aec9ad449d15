use Rattle.std.proofs.Common.{◌≡◌, List, map, take}
use Rattle.verse_code_machine.specs.Tasks.{Frame}
use Rattle.vm_frames.specs.Framed.{Framed}
use Rattle.vm_tasks.specs.View.{slot_of}
use Rattle.run_save_shots.specs.View.{task_of}
use Rattle.vm_shot_laws.specs.Tree.{kept_tasks}
use Rattle.vm_shot_tasks.specs.Holding.{AreFrames}
use Rattle.vm_shot_tasks.proofs.tasks.tasks_shot.Given as goal

-- what is kept of the tasks so far
abbrev pub invariant-tasks : goal.invariant-tasks
invariant-tasks l =
    (frames : List Framed → Frame × List Frame) → AreFrames frames →
    map task_of l.tasks.items ≡ take l.place (kept_tasks (slot_of frames) l.tree)
