use Rattle.std.proofs.Common.{◌≡◌, [], refl, ◌∙◌, rules}
use Rattle.vm_scheduler.proofs.Seated.{live_here}
use Rattle.vm_begin.proofs.Coming.{no_arms, group_live, arm_ok}
use Rattle.vm_begin.proofs.groups.group.Goals as goal

pub returns-in_default : goal.returns-in_default
returns-in_default g c =
    let none : c.reverse.new.self.items ≡ [] = search rules in
    no_arms g.W.Waits.pending _ _ _ _ _ _ c.requires.free c.reverse.ensures.items none

pub begin_group-requires : goal.begin_group-requires
begin_group-requires g c = live_here g.W.Waits.pending _ _ c.is_nested.ensures c.requires.there c.requires.free

pub begin_arm-requires-clause-live : goal.begin_arm-requires-clause-live
begin_arm-requires-clause-live g c =
    group_live g.W.Waits.pending _ _ _ c.is_nested.ensures c.is_nested-2.ensures c.requires.there c.requires.free
    c.begin_group.ensures.marked c.begin_group.ensures.group

pub returns : goal.returns
returns g c =
    arm_ok g.W.Waits.pending _ _ _ _ _ _ _ _ _ _ _ c.is_nested.ensures c.requires.free c.begin_group.ensures.marked
    c.begin_group.ensures.group refl c.replace-thread.ensures.value c.new.ensures.items c.reverse.ensures.items c.in-Some.ensures.items
    (c.replace-thread.ensures.after ∙ c.empty.ensures) c.begin_arm.ensures
