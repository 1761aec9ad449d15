use Rattle.std.proofs.Common.{refl, subst}
use Rattle.verse_value.specs.Val.{object}
use Rattle.verse_value.specs.View.{val_of, vals_of}
use Rattle.verse_meaning_state.specs.Effects.{slot_written}
use Rattle.tx_heap.specs.Outcomes.{cells_written}
use Rattle.vm_exec_memory.specs.Effects.{Tells}
use Rattle.vm_exec_memory.proofs.Effects.{effect_fails_at, effect_barred_at}
use Rattle.vm_exec_memory.proofs.Stores.{write_fails, write_not_fails}
use Rattle.vm_exec_memory.proofs.writing.forbidden.Goals as goal

pub returns-then-branch : goal.returns-then-branch
returns-then-branch g c p =
    effect_fails_at p (slot_written c.args.at.slot (vals_of c.args.assigned.path) c.args.assigned.mode (val_of c.args.assigned.value)
    (object c.args.at.cell)) _ _ _ c.requires.ready c.in_ok-would_fail.ensures.same
    (λ a. write_fails (g.H.Heap.state c.args.run.now.heap) c.args.run.now.trace c.args.run.now.left c.args.run.now.spent
    c.args.run.now.moment c.args.at.cell c.args.at.slot (vals_of c.args.assigned.path) c.args.assigned.mode
    (val_of c.args.assigned.value) c.args.run.now.thread
    (subst (λ b. Tells b (cells_written (g.H.Heap.state c.args.run.now.heap).cells c.args.at.cell c.args.at.slot
    (vals_of c.args.assigned.path) c.args.assigned.mode
    (val_of c.args.assigned.value))) c.if-branch.true c.in_ok-would_fail.ensures.told) a) c.fail.ensures

pub returns : goal.returns
returns g c p =
    effect_barred_at p (slot_written c.args.at.slot (vals_of c.args.assigned.path) c.args.assigned.mode (val_of c.args.assigned.value)
    (object c.args.at.cell)) _ _ _ c.in_ok-would_fail.ensures.same refl c.requires.barred
    (λ a past. write_not_fails (g.H.Heap.state c.args.run.now.heap) c.args.run.now.trace c.args.run.now.left c.args.run.now.spent
    c.args.run.now.moment c.args.at.cell c.args.at.slot (vals_of c.args.assigned.path) c.args.assigned.mode
    (val_of c.args.assigned.value) c.args.run.now.thread
    (subst (λ b. Tells b (cells_written (g.H.Heap.state c.args.run.now.heap).cells c.args.at.cell c.args.at.slot
    (vals_of c.args.assigned.path) c.args.assigned.mode
    (val_of c.args.assigned.value))) c.if-branch.false c.in_ok-would_fail.ensures.told) a)
