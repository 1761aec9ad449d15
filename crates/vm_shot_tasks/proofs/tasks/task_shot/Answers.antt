use Rattle.vm_shot_tasks.proofs.Rows.{has_item, task_made}
use Rattle.vm_shot_tasks.proofs.tasks.task_shot.Goals as goal

pub held_shot-requires : goal.held_shot-requires
held_shot-requires c = has_item c.args.id c.args.tree.now c.slot_at-slot.result.now c.requires.frames c.slot_at-slot.ensures

pub returns : goal.returns
returns c frames are =
    task_made frames c.args.tree.now c.args.id c.slot_at-slot.result.now c.parent-parent.result _ c.slot_at-slot.ensures
    c.parent-parent.ensures (c.in_ok-place.ensures c.args.tree.now c.requires.places) (c.in_ok-role.ensures frames are)
    c.entry_of-root.ensures (c.in_ok-frames.ensures frames are) (c.in_ok-rest.ensures frames)
