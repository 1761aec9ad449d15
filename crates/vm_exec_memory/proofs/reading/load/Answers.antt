use Rattle.std.proofs.Common.{None, sym, ◌∙◌}
use Rattle.verse_value.specs.View.{val_of}
use Rattle.verse_value.specs.Storing.{read_slot}
use Rattle.verse_meaning_state.specs.Effects.{slot_read}
use Rattle.vm_running.specs.Doings.{effects}
use Rattle.vm_running.proofs.Steps.{comes_by, ok_by, pop_leads}
use Rattle.vm_exec_memory.proofs.Stores.{read_stuck, read_ok}
use Rattle.vm_exec_memory.proofs.reading.load.Goals as goal

pub returns-in_default-cell_of : goal.returns-in_default-cell_of
returns-in_default-cell_of g c =
    let popped = pop_leads (λ v. effects None (slot_read c.args.slot v)) _ _ _ c.requires.ready c.in-Some.ensures.some in
    comes_by popped (read_stuck (val_of c.in-Some.value) c.args.slot _ _ popped.ready (sym c.in_default-cell_of.is ∙ c.cell_of.ensures))

pub returns : goal.returns
returns g c =
    let popped = pop_leads (λ v. effects None (slot_read c.args.slot v)) _ _ _ c.requires.ready c.in-Some.ensures.some in
    ok_by _ _ popped (read_ok (val_of c.in-Some.value) c.in-Some-cell_of.cell c.args.slot _ _ _ popped.ready c.held_in-held.ensures.same
    (sym c.in-Some-cell_of.is ∙ c.cell_of.ensures)
    (c.answer.ensures (read_slot (g.H.Heap.state c.args.run.now.heap).cells c.in-Some-cell_of.cell c.args.slot)
    c.held_in-held.ensures.answers))
