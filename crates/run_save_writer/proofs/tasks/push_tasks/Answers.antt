use Rattle.std.proofs.Common.{arith}
use Rattle.run_save_shots.specs.declared.shots.TaskShot.{TaskShot}
use Rattle.run_save_shots.specs.View.{task_of}
use Rattle.run_save_format.specs.Format.{task_field}
use Rattle.verse_image.proofs.WritingLemmas.{writes_entry, writes_end}
use Rattle.run_save_writer.proofs.Writing.{writes_list}
use Rattle.run_save_writer.proofs.tasks.push_tasks.Goals as goal

pub entries-init : goal.entries-init
entries-init c = λ new w. writes_list task_field task_of c.args.tasks.now _ _ _ c.in_ok-push_count.ensures w

pub entries-preserved : goal.entries-preserved
entries-preserved c = λ new w.
    c.entries.invariant new (writes_entry (λ (x : TaskShot). task_field (task_of x)) c.args.tasks.now c.entries.entry-index _ _ _ _ _
    (omega arith) c.entry-item.is c.in_ok-push_task.ensures w)

pub returns : goal.returns
returns c = c.entries.invariant _ (writes_end (λ (x : TaskShot). task_field (task_of x)) c.args.tasks.now c.entries.entry-index _
    (omega arith))
