use Rattle.std.proofs.Common.{◌≡◌, ◌+◌, Some, true, refl, sym, ap, ◌∙◌, rules}
use Rattle.verse_value.specs.Val.{object}
use Rattle.verse_value.specs.View.{val_of, vals_of}
use Rattle.verse_meaning_state.specs.Effects.{slot_written}
use Rattle.vm_running.specs.Views.{state_of}
use Rattle.vm_running.specs.Runners.{view_of}
use Rattle.vm_running.specs.Doings.{place_in}
use Rattle.vm_running.proofs.Steps.{ok_by}
use Rattle.vm_exec_memory.proofs.Effects.{effect_gives, refused_ok}
use Rattle.vm_exec_memory.proofs.Stores.{kept_as, write_gives, write_refused}
use Rattle.vm_exec_memory.proofs.writing.assign.Goals as goal

pub returns-then-not-permits : goal.returns-then-not-permits
returns-then-not-permits g c = c.forbidden.ensures (place_in c.args.code.now (Some c.args.place))

pub returns-in-Ok : goal.returns-in-Ok
returns-in-Ok g c =
    let sure : c.permits.result ≡ true = search rules in
    ok_by _ _ (effect_gives (place_in c.args.code.now (Some c.args.place))
    (slot_written c.args.at.slot (vals_of c.args.assigned.path) c.args.assigned.mode (val_of c.args.assigned.value)
    (object c.args.at.cell)) (val_of c.in-Ok.written) _ _ (g.H.Heap.state c.write.new.self).cells c.args.run.now.trace.kept
    c.requires.ready (ap (λ k. k + 1) c.place-next.ensures) (sym c.permits.ensures ∙ sure)
    (kept_as (g.H.Heap.state c.write.new.self) (g.H.Heap.state c.args.run.now.heap) c.in-Ok.ensures.copies) refl
    (λ a past. write_gives (g.H.Heap.state c.args.run.now.heap) c.args.run.now.trace c.args.run.now.left c.args.run.now.spent
    c.args.run.now.moment c.args.at.cell c.args.at.slot (vals_of c.args.assigned.path) c.args.assigned.mode
    (val_of c.args.assigned.value) c.args.run.now.thread (g.H.Heap.state c.write.new.self).cells
    (val_of c.in-Ok.written) c.in-Ok.ensures.ok a)) c.push_on.ensures

pub returns : goal.returns
returns g c =
    let no = write_refused (g.H.Heap.state c.args.run.now.heap).cells c.args.at.cell c.args.at.slot
    (vals_of c.args.assigned.path) c.args.assigned.mode (val_of c.args.assigned.value) c.in-Err.fault c.in_ok-op_fault-in-Err.field-0
    c.in_ok-op_fault-in-Err.ensures c.in-Err.ensures.fault in
    refused_ok (place_in c.args.code.now (Some c.args.place))
    (slot_written c.args.at.slot (vals_of c.args.assigned.path) c.args.assigned.mode (val_of c.args.assigned.value)
    (object c.args.at.cell)) no.answer _ _ _ c.requires.ready c.in-Err.ensures.err
    (λ a. no.same (state_of a (view_of g.H.Heap.state c.args.run.now))) (c.refuse.ensures no.answer no.is)
