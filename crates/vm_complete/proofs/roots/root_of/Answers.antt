use Rattle.std.proofs.Common.{sym, ap, ◌∙◌}
use Rattle.std.specs.Option.{option_copied}
use Rattle.vm_tasks.specs.declared.slots.Slot.{Slot}
use Rattle.vm_complete.proofs.Items.{not_live, part_is}
use Rattle.vm_complete.proofs.roots.root_of.Goals as goal

pub unreachable-requires : goal.unreachable-requires
unreachable-requires c = not_live c.args.id c.args.tree.now c.requires (sym (ap (λ o. option_copied o) c.in-None.is) ∙ c.get.ensures)

pub returns : goal.returns
returns c = part_is (λ (s : Slot _). s.root) c.args.id c.args.tree.now c.in-Some.slot.now (sym (ap (λ o. option_copied o) c.in-Some.is) ∙
    c.get.ensures)
