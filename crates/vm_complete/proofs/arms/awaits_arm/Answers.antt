use Rattle.std.proofs.Common.{sym, ap, ◌∙◌}
use Rattle.std.specs.Option.{option_copied}
use Rattle.vm_tasks.specs.declared.slots.Slot.{Slot}
use Rattle.vm_complete.specs.Arms.{has_run}
use Rattle.vm_complete.proofs.Items.{not_live, item_is}
use Rattle.vm_complete.proofs.arms.awaits_arm.Goals as goal

pub unreachable-requires : goal.unreachable-requires
unreachable-requires c = not_live c.args.id c.args.tree.now c.requires (sym (ap (λ o. option_copied o) c.in-None.is) ∙ c.get.ensures)

pub returns : goal.returns
returns c = λ t at.
    c.has_arm.ensures ∙ ap (λ (z : Slot _). has_run c.args.number z.held)
    (item_is c.args.id c.args.tree.now c.in-Some.slot.now t (sym (ap (λ o. option_copied o) c.in-Some.is) ∙ c.get.ensures) at)
