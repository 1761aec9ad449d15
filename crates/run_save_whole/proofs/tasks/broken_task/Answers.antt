use Rattle.std.proofs.Common.{◌∙◌, sym, ap, length, map}
use Rattle.std.proofs.lemmas.List.{length-map}
use Rattle.run_save_shots.specs.View.{task_of}
use Rattle.run_save_whole.specs.View.{marks_of}
use Rattle.run_save_whole.proofs.TaskSteps.{tasks_decided_as}
use Rattle.run_save_whole.proofs.tasks.broken_task.Goals as goal

pub returns : goal.returns
returns c =
    c.first_wrong.ensures ∙
    tasks_decided_as c.args.code.now c.args.spent (length c.args.tasks.now) (map task_of c.args.tasks.now) (map marks_of c.deref.result.now)
    c.in_ok-floors.floors.items (ap (map marks_of) c.deref.ensures.value ∙ c.in_ok-arms.ensures) c.in_ok-floors.ensures
    (sym (length-map c.args.tasks.now task_of))
