use Rattle.std.proofs.Common.{◌≡◌, [], reverse, ap, refl, rules}
use Rattle.vm_scheduler.proofs.Ends.{last_first}
use Rattle.vm_group.proofs.Settling.{hand_live, hand_labels, next_begins, next_settles}
use Rattle.vm_group.proofs.Downs.{arm_runs}
use Rattle.vm_group.proofs.groups.next_arm.Goals as goal

pub begin_arm-requires-clause-live : goal.begin_arm-requires-clause-live
begin_arm-requires-clause-live g c = hand_live g.W.Waits.pending c.args.begins _ _ c.is_nested.ensures c.requires

pub returns-in-Some-clause-next : goal.returns-in-Some-clause-next
returns-in-Some-clause-next g c =
    next_begins g.W.Waits.pending c.begin_arm.result c.args.begins (record c.args.begins { labels = c.pop.new.self }) c.in-Some.label _ _ _
    _ (last_first c.pop.new.self.items c.args.begins.labels.items c.in-Some.label c.in-Some.ensures.items) refl c.begin_arm.ensures

pub returns-in-None-clause-next : goal.returns-in-None-clause-next
returns-in-None-clause-next g c =
    let none : c.args.begins.labels.items ≡ [] = search rules in
    next_settles g.W.Waits.pending c.settle.result c.args.begins (record c.args.begins { labels = c.pop.new.self }) _ _ _ _
    (ap (λ z. reverse z) none) refl c.settle.ensures.settles

pub returns-in-Some-clause-above : goal.returns-in-Some-clause-above
returns-in-Some-clause-above g c =
    arm_runs g.W.Waits.pending c.begin_arm.result _ (record c.args.begins { labels = c.pop.new.self }) c.in-Some.label _ _ _ _
    (hand_labels g.W.Waits.pending c.args.begins (record c.args.begins { labels = c.pop.new.self }) _ _ refl c.requires)
    c.begin_arm.ensures
