-- How a task stands to its parent.
use Rattle.std.specs.Prelude.{◌≡◌, true}
use Rattle.task_tree.specs.Tasks.{suits}
use Rattle.run_save_shots.specs.declared.shots.TaskShot.{TaskShot}

-- Root exactly where it has no parent
abbrev pub IsSuited : TaskShot → Type 0
IsSuited t = suits t.parent t.role ≡ true
