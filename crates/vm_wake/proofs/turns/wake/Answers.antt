use Rattle.verse_value.specs.View.{val_of}
use Rattle.vm_wake.proofs.Waking.{wakes_live, only_asleep, woken_some, wakes_to}
use Rattle.vm_wake.proofs.turns.wake.Goals as goal

pub take_up-requires : goal.take_up-requires
take_up-requires g c = wakes_live g.W.Waits.pending c.args.due _ _ c.is_nested.ensures c.requires

pub resume-requires : goal.resume-requires
resume-requires g c =
    woken_some g.W.Waits.pending c.args.due _ c.args.tasks.now c.take_up.new.tree c.remove.new.self c.in-Asleep.thread c.in-Asleep._number
    c.in-Asleep.kind (val_of c.in_ok-value-in-Asleep.value) c.is_nested.ensures c.in-Asleep.ensures.taken c.in-Asleep.ensures.value
    c.in-Asleep.ensures.wakes
    c.remove.ensures c.requires

pub unreachable-requires : goal.unreachable-requires
unreachable-requires g c =
    let k = only_asleep g.W.Waits.pending c.args.due _ c.args.tasks.now c.take_up.new.tree c.take_up.result c.take_up.ensures.wakes
    c.requires in c.in_default.not-Asleep k.0 k.1 k.2 k.3

pub returns : goal.returns
returns g c =
    wakes_to g.W.Waits.pending c.args.due _ c.args.tasks.now c.take_up.new.tree c.remove.new.self c.in-Asleep.thread c.in-Asleep._number
    c.in-Asleep.kind (val_of c.in_ok-value-in-Asleep.value) c.is_nested.ensures c.in-Asleep.ensures.taken c.in-Asleep.ensures.value
    c.in-Asleep.ensures.wakes
    c.remove.ensures c.resume.result _ _ c.is_nested-in-Asleep.ensures c.in_ok-value-in-Asleep.ensures c.resume.ensures
