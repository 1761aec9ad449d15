use Rattle.std.proofs.Common.{◌≡◌, Some, false, sym, ◌∙◌, rules}
use Rattle.verse_value.specs.View.{val_of, vals_of}
use Rattle.verse_meaning_state.specs.Effects.{slot_written}
use Rattle.vm_running.specs.Doings.{place_in, effects}
use Rattle.vm_running.proofs.Steps.{comes_by, ok_by, pop_leads}
use Rattle.vm_exec_memory.proofs.Stores.{write_stuck, write_ok, write_absent}
use Rattle.vm_exec_memory.proofs.writing.store_in.Goals as goal

pub returns-in_default-cell_of : goal.returns-in_default-cell_of
returns-in_default-cell_of g c =
    let popped = pop_leads (λ v. effects (place_in c.args.code.now (Some c.args.target.place))
    (slot_written c.args.target.slot (vals_of c.args.assigned.path) c.args.assigned.mode (val_of c.args.assigned.value) v)) _ _ _
    c.requires.ready c.in-Some.ensures.some in
    comes_by popped (write_stuck (place_in c.args.code.now (Some c.args.target.place)) c.args.target.slot
    (vals_of c.args.assigned.path) c.args.assigned.mode (val_of c.args.assigned.value) (val_of c.in-Some.object) _ _ popped.ready
    (sym c.in_default-cell_of.is ∙ c.cell_of.ensures))

pub returns-then-not-has_slot : goal.returns-then-not-has_slot
returns-then-not-has_slot g c =
    let popped = pop_leads (λ v. effects (place_in c.args.code.now (Some c.args.target.place))
    (slot_written c.args.target.slot (vals_of c.args.assigned.path) c.args.assigned.mode (val_of c.args.assigned.value) v)) _ _ _
    c.requires.ready c.in-Some.ensures.some in
    let not_so : c.has_slot.result ≡ false = search rules in
    comes_by popped (write_absent (place_in c.args.code.now (Some c.args.target.place)) c.in-Some-cell_of.cell c.args.target.slot
    (vals_of c.args.assigned.path) c.args.assigned.mode (val_of c.args.assigned.value)
    (val_of c.in-Some.object) _ _ popped.ready c.has_slot.ensures.same (sym c.in-Some-cell_of.is ∙ c.cell_of.ensures)
    (c.has_slot.ensures.absent not_so))

pub returns : goal.returns
returns g c =
    let popped = pop_leads (λ v. effects (place_in c.args.code.now (Some c.args.target.place))
    (slot_written c.args.target.slot (vals_of c.args.assigned.path) c.args.assigned.mode (val_of c.args.assigned.value) v)) _ _ _
    c.requires.ready c.in-Some.ensures.some in
    ok_by _ _ popped (write_ok (place_in c.args.code.now (Some c.args.target.place)) c.in-Some-cell_of.cell c.args.target.slot
    (vals_of c.args.assigned.path) c.args.assigned.mode (val_of c.args.assigned.value)
    (val_of c.in-Some.object) _ _ _ popped.ready c.has_slot.ensures.same
    (sym c.in-Some-cell_of.is ∙ c.cell_of.ensures) c.assign.ensures)
