use Rattle.std.proofs.Common.{◌++◌, ap, subst, ◌∙◌}
use Rattle.run_save_shots.specs.View.{task_of}
use Rattle.run_save_numbers.specs.View.{numbers_of}
use Rattle.run_save_trees.specs.Restoring.{IsPut}
use Rattle.run_save_machine.specs.Putting.{waits_with}
use Rattle.run_save_machine.proofs.Putting.{with_task}
use Rattle.run_save_machine.proofs.tasks.put_one.Goals as goal

pub returns : goal.returns
returns c =
    with_task c.args.code.now (task_of c.args.task) (numbers_of c.args.numbers.now) c.args.restored.now _ c.in_ok-id.id
    c.in_ok-slot.slot c.is_nested.ensures c.in_ok-slot.ensures
    (subst (λ ids. IsPut c.args.task.parent ids c.args.restored.now.tree c.put.new.tree c.in_ok-id.id c.in_ok-slot.slot)
    c.deref.ensures.value c.in_ok-id.ensures)
    c.in_ok-push.ensures.items
    (c.in_ok-add_wait.ensures ∙
    ap (λ w. c.args.restored.now.waits.items ++ waits_with c.in_ok-id.id w) c.wait_of-wait.ensures)
