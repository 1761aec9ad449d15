use Rattle.std.proofs.Common.{◌≡◌, false, true, Some, ap, ◌∙◌, refl, rules}
use Rattle.vm_tasks.specs.declared.slots.Held.TheVariants.{ByMachine, AtGroup}
use Rattle.vm_complete.proofs.Joining.{parent_live, waits_still, not_awaited, never_machine, never_asleep, joined_hand, joined_goes}
use Rattle.vm_complete.proofs.parts.join.Goals as goal

pub awaits_arm-requires : goal.awaits_arm-requires
awaits_arm-requires g c = parent_live g.W.Waits.pending c.args.parent c.args.number _ _ c.requires

pub returns-then-not-awaits_arm : goal.returns-then-not-awaits_arm
returns-then-not-awaits_arm g c =
    let not_so : c.awaits_arm.result ≡ false = search rules in
    waits_still g.W.Waits.pending c.args.parent c.args.number _ _ _ c.awaits_arm.result c.awaits_arm.ensures not_so

pub take_up-held-requires : goal.take_up-held-requires
take_up-held-requires g c = parent_live g.W.Waits.pending c.args.parent c.args.number _ _ c.requires

pub settle_on-requires : goal.settle_on-requires
settle_on-requires g c =
    joined_hand g.W.Waits.pending c.args.parent c.args.number c.in-AtGroup.thread c.in-AtGroup.group c.args.value _ _ c.args.tasks.now
    c.take_up-held.new.tree c.is_nested.ensures c.is_nested-2.ensures c.take_up-held.ensures.taken
    (c.take_up-held.ensures.value ∙ ap (λ h. Some h) c.in-AtGroup.is) c.give_arm.ensures refl refl c.requires

pub returns : goal.returns
returns g c =
    let so : c.awaits_arm.result ≡ true = search rules in
    joined_goes g.W.Waits.pending c.args.parent c.args.number c.in-AtGroup.thread c.in-AtGroup.group c.args.value _ _ c.args.tasks.now
    c.take_up-held.new.tree c.is_nested.ensures c.is_nested-2.ensures c.take_up-held.ensures.taken
    (c.take_up-held.ensures.value ∙ ap (λ h. Some h) c.in-AtGroup.is) c.give_arm.ensures c.settle_on.result _ _ refl refl refl refl
    (not_awaited g.W.Waits.pending c.args.parent c.args.number _ c.args.tasks.now c.awaits_arm.result
    (AtGroup c.in-AtGroup.thread c.in-AtGroup.group) c.requires c.awaits_arm.ensures
    (c.take_up-held.ensures.value ∙ ap (λ h. Some h) c.in-AtGroup.is) so) c.settle_on.ensures

pub unreachable-requires : goal.unreachable-requires
unreachable-requires g c =
    let so : c.awaits_arm.result ≡ true = search rules in
    never_machine c.args.number (not_awaited g.W.Waits.pending c.args.parent c.args.number _ c.args.tasks.now c.awaits_arm.result ByMachine
    c.requires c.awaits_arm.ensures (c.take_up-held.ensures.value ∙ ap (λ h. Some h) c.in-ByMachine.is) so)

pub unreachable-requires-in-Asleep : goal.unreachable-requires-in-Asleep
unreachable-requires-in-Asleep g c =
    let so : c.awaits_arm.result ≡ true = search rules in
    never_asleep c.args.number c.take_up-held.result _ _ _ c.in-Asleep.is
    (not_awaited g.W.Waits.pending c.args.parent c.args.number _ c.args.tasks.now c.awaits_arm.result c.take_up-held.result c.requires
    c.awaits_arm.ensures c.take_up-held.ensures.value so)
