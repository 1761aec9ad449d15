use Rattle.std.proofs.Common.{◌∷◌, [], ◌++◌, length, map}
use Rattle.std.proofs.lemmas.Result.{err_from_is_err_and}
use Rattle.run_save_shots.specs.View.{task_of}
use Rattle.run_save_format.specs.Values.{each_at}
use Rattle.run_save_format.specs.Reading.{noted_at, task_at}
use Rattle.run_save_values.proofs.ListSteps.{each_begins, each_goes_on, each_ends, each_is_done}
use Rattle.run_save_parts.proofs.Noted.{noted, noted_fails}
use Rattle.run_save_tasks.specs.View.{known_of}
use Rattle.run_save_tasks.proofs.tasks.some_tasks.Goals as goal

pub tasks-init : goal.tasks-init
tasks-init c = rw (c.new-tasks.ensures.items, c.new-lefts.ensures.items, c.new-waits.ensures)
    (each_begins (noted_at (task_at (known_of c.args.known.now))) c.args.count ([], []) c.args.bytes.now)

pub returns-in_err-task : goal.returns-in_err-task
returns-in_err-task c =
    let p = err_from_is_err_and c.from_residual.result c.from_residual.ensures.1 in
    rw (p.1, p.2) (each_ends (noted_at (task_at (known_of c.args.known.now))) c.in_err-task.field-0.0 (map task_of c.tasks.tasks.items)
    c.args.count c.tasks._i (c.tasks.waits, c.tasks.lefts.items) c.tasks.after.now
    (each_at (noted_at (task_at (known_of c.args.known.now))) c.args.count ([], []) c.args.bytes.now) c.tasks-test.true
    (noted_fails (task_at (known_of c.args.known.now)) c.in_err-task.field-0.0 c.tasks.waits c.tasks.lefts.items c.tasks.after.now
    c.in_err-task.ensures) c.tasks.invariant)

pub tasks-preserved : goal.tasks-preserved
tasks-preserved c =
    rw (c.in_ok-push-2.ensures.items, c.in_ok-push.ensures.items) (each_goes_on task_of
    (noted_at (task_at (known_of c.args.known.now))) c.tasks.tasks.items c.args.count c.tasks._i
    (c.tasks.waits, c.tasks.lefts.items) c.tasks.after.now c.in_ok-task.task
    (_, c.tasks.lefts.items ++ length c.tasks.after.now ∷ []) c.in_ok-task.behind.now
    (each_at (noted_at (task_at (known_of c.args.known.now))) c.args.count ([], []) c.args.bytes.now) c.tasks-test.true
    (noted (task_at (known_of c.args.known.now)) c.tasks.waits _ c.tasks.lefts.items c.tasks.after.now (task_of c.in_ok-task.task)
    c.in_ok-task.behind.now c.in_ok-task.ensures) c.tasks.invariant)

pub returns : goal.returns
returns c = each_is_done (noted_at (task_at (known_of c.args.known.now))) (map task_of c.tasks.tasks.items) c.args.count c.tasks._i
    (c.tasks.waits, c.tasks.lefts.items) c.tasks.after.now
    (each_at (noted_at (task_at (known_of c.args.known.now))) c.args.count ([], []) c.args.bytes.now) c.tasks-test.false c.tasks.invariant
