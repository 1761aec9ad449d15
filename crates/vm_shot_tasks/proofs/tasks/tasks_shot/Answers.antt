-- What is kept of one task more.
use Rattle.std.proofs.Common.{◌≡◌, ◌≤◌, List, Some, length, slice_get, ap, sym, ◌∙◌, arith, rules}
use Rattle.std.proofs.lemmas.List.{length-map}
use Rattle.task_tree.specs.Tasks.{Task}
use Rattle.vm_frames.specs.Framed.{Framed}
use Rattle.vm_tasks.specs.declared.slots.Slot.{Slot}
use Rattle.vm_tasks.specs.View.{slot_of}
use Rattle.run_save_shots.specs.View.{task_of}
use Rattle.vm_shot_laws.specs.Tree.{kept_task}
use Rattle.vm_shot_tasks.proofs.Standing.{numbers, placed_live, one_kept, all_kept}
use Rattle.vm_shot_tasks.proofs.tasks.tasks_shot.Goals as goal

pub task_shot-requires-clause-live : goal.task_shot-requires-clause-live
task_shot-requires-clause-live c =
    let at : slice_get (numbers c.args.tree.now) c.tasks.place ≡ Some c.in-Some.id =
    ap (λ ks. slice_get ks c.tasks.place) (sym c.in_ok-places.ensures) ∙ sym c.in-Some.ensures in
    placed_live c.args.tree.now c.tasks.place c.in-Some.id c.is_nested.ensures.distinct at

pub tasks-preserved : goal.tasks-preserved
tasks-preserved c frames are =
    let at : slice_get (numbers c.args.tree.now) c.tasks.place ≡ Some c.in-Some.id =
    ap (λ ks. slice_get ks c.tasks.place) (sym c.in_ok-places.ensures) ∙ sym c.in-Some.ensures in
    one_kept (kept_task (slot_of frames) c.args.tree.now) task_of c.args.tree.now c.tasks.place c.in-Some.id c.tasks.tasks.items
    c.push.new.self.items c.in_ok-task.task c.is_nested.ensures.distinct at (c.in_ok-task.ensures frames are) c.in_ok-push.ensures.items
    (c.tasks.invariant frames are)

pub returns : goal.returns
returns c frames are =
    let count : c.len-count.result ≡ length (numbers c.args.tree.now) = c.len-count.ensures ∙ ap length c.in_ok-places.ensures in
    let most : c.len-count.result ≤ c.tasks.place = search rules in
    let all = length-map c.args.tree.now (λ (t : Task (Slot (List Framed))). t.number) in
    all_kept (kept_task (slot_of frames) c.args.tree.now) task_of c.args.tree.now c.tasks.place c.tasks.tasks.items
    (omega (arith, count, most, all)) (c.tasks.invariant frames are)
