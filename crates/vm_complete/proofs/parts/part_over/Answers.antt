use Rattle.std.proofs.Common.{◌≡◌, [], sym, ◌∙◌, rules}
use Rattle.vm_complete.proofs.PartEnds.{part_live, gone_part, part_up, joining_part, part_joins, has_parent}
use Rattle.vm_complete.proofs.parts.part_over.Goals as goal

pub number_of-number-requires : goal.number_of-number-requires
number_of-number-requires g c = part_live g.W.Waits.pending _ _ c.is_nested.ensures c.requires

pub finish-parent-requires-clause-live : goal.finish-parent-requires-clause-live
finish-parent-requires-clause-live g c = part_live g.W.Waits.pending _ _ c.is_nested.ensures c.requires

pub finish-parent-requires-clause-childless : goal.finish-parent-requires-clause-childless
finish-parent-requires-clause-childless g c = c.requires.here.childless

pub part_gone-requires : goal.part_gone-requires
part_gone-requires g c =
    gone_part g.W.Waits.pending c.args.tasks.now c.finish-parent.new.tree c.pop.new.self c.is_nested.ensures c.finish-parent.ensures.ended
    c.finish-parent.ensures.left c.in-Some.up _ c.in-Some.ensures.items c.requires

pub returns-in-Some : goal.returns-in-Some
returns-in-Some g c =
    part_up g.W.Waits.pending c.args.tasks.now c.finish-parent.new.tree c.pop.new.self c.is_nested.ensures c.finish-parent.ensures.ended
    c.finish-parent.ensures.left c.part_gone.result c.in-Some.up _ _ _ _ c.in-Some.ensures.items c.part_gone.ensures

pub join-requires : goal.join-requires
join-requires g c =
    let none : c.args.tasks.now.ups.items ≡ [] = search rules in
    let left : c.pop.new.self.items ≡ [] = search rules in
    joining_part g.W.Waits.pending c.args.tasks.now c.finish-parent.new.tree c.pop.new.self c.is_nested.ensures
    c.finish-parent.ensures.ended c.finish-parent.ensures.left _ _ (sym c.in-Some-parent.is ∙ c.finish-parent.ensures.parent)
    c.number_of-number.ensures none left _ c.requires

pub unreachable-requires : goal.unreachable-requires
unreachable-requires g c =
    let none : c.args.tasks.now.ups.items ≡ [] = search rules in
    has_parent g.W.Waits.pending c.args.tasks.now c.finish-parent.new.tree c.pop.new.self c.is_nested.ensures c.finish-parent.ensures.ended
    c.finish-parent.ensures.left _ (sym c.in-None-parent.is ∙ c.finish-parent.ensures.parent) none c.requires

pub returns-in-Some-parent : goal.returns-in-Some-parent
returns-in-Some-parent g c =
    let none : c.args.tasks.now.ups.items ≡ [] = search rules in
    let left : c.pop.new.self.items ≡ [] = search rules in
    part_joins g.W.Waits.pending c.args.tasks.now c.finish-parent.new.tree c.pop.new.self c.is_nested.ensures c.finish-parent.ensures.ended
    c.finish-parent.ensures.left _ _ (sym c.in-Some-parent.is ∙ c.finish-parent.ensures.parent) c.number_of-number.ensures none left
    c.join.result _ _ _ _ c.join.ensures
