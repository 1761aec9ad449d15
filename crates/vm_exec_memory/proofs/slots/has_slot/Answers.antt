use Rattle.std.proofs.Common.{sym, ◌∙◌}
use Rattle.verse_base.proofs.Facts.{nat_lt_not}
use Rattle.vm_exec_memory.proofs.Handed.{below}
use Rattle.vm_exec_memory.proofs.Stores.{slots_there, slots_absent, no_slots}
use Rattle.vm_exec_memory.proofs.slots.has_slot.Goals as goal

pub returns-in-Some-clause-there : goal.returns-in-Some-clause-there
returns-in-Some-clause-there g c so = slots_there c.args.code.now.classes _ c.args.cell c.args.slot c.in-Some.count c.kind-kind.result
    c.requires c.kind-kind.ensures.kind (sym c.in-Some.is ∙ c.slots_in.ensures) (below _ _ so)

pub returns-in-Some-clause-absent : goal.returns-in-Some-clause-absent
returns-in-Some-clause-absent g c so = slots_absent c.args.code.now.classes _ c.args.cell c.args.slot c.in-Some.count c.kind-kind.result
    c.requires c.kind-kind.ensures.kind (sym c.in-Some.is ∙ c.slots_in.ensures) (nat_lt_not _ _ so)

pub returns-in-None-clause-absent : goal.returns-in-None-clause-absent
returns-in-None-clause-absent g c so = no_slots c.args.code.now.classes _ c.args.cell c.args.slot c.kind-kind.result c.requires
    c.kind-kind.ensures.kind (sym c.in-None.is ∙ c.slots_in.ensures)
