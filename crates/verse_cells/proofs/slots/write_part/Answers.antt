use Rattle.std.proofs.Common.{Option, IfErr, sym, subst}
use Rattle.std.proofs.lemmas.Result.{IfOk-weaker, on_err_weaker}
use Rattle.verse_value.specs.Val.{Val}
use Rattle.verse_value.specs.View.{val_of, vals_of}
use Rattle.verse_value_writes.specs.Writes.{Explains}
use Rattle.verse_cells.specs.Changes.{IsWrite, slot_written}
use Rattle.verse_cells.proofs.Places.{in_slot, same_slots, read_part}
use Rattle.verse_cells.proofs.slots.write_part.Goals as goal

pub returns-clause-ok : goal.returns-clause-ok
returns-clause-ok c =
    IfOk-weaker c.write_value.result _ _
    (λ ch h. in_slot c.args.slot (IsWrite c.args.spare (vals_of c.args.path.now) c.args.mode (val_of c.args.value) c.args.wanted ch)
    c.args.slots.now c.part_mut.result.now c.write_value.new.slot c.part_mut.ensures.value h)
    c.write_value.ensures.ok

pub returns-clause-fault : goal.returns-clause-fault
returns-clause-fault c =
    let P : Option Val → Type 0 = λ o. IfErr c.write_value.result
    (Explains (slot_written c.args.spare (vals_of c.args.path.now) c.args.mode (val_of c.args.value) o)) in
    subst P (sym (read_part c.args.slots.now c.args.slot c.part_mut.result.now c.part_mut.ensures.value)) c.write_value.ensures.fault

pub returns-clause-same : goal.returns-clause-same
returns-clause-same c =
    on_err_weaker c.write_value.result
    (λ e. same_slots c.args.slot c.args.slots.now c.part_mut.result.now c.write_value.new.slot c.part_mut.ensures.value e)
    c.write_value.ensures.same
