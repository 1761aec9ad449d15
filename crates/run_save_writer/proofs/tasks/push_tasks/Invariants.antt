use Rattle.std.proofs.Common.{List, ℕ, drop, map}
use Rattle.verse_image.specs.Format.{each}
use Rattle.verse_image.specs.Writing.{Writes}
use Rattle.run_save_shots.specs.View.{task_of}
use Rattle.run_save_format.specs.Format.{task_field, list}
use Rattle.run_save_shots.specs.declared.shots.TaskShot.{TaskShot}
use Rattle.run_save_writer.proofs.tasks.push_tasks.Given as goal

-- what writes the entries that are left completes them
abbrev pub invariant-entries : goal.invariant-entries
invariant-entries l = (new : List ℕ) → Writes (each (λ (x : TaskShot). task_field (task_of x)) (drop l.entry-index l.tasks))
    l.out.items new →
    Writes (list task_field (map task_of l.tasks)) l.fn.out.items new
