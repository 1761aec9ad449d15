use Rattle.std.proofs.Common.{Option, IfErr, sym, subst}
use Rattle.std.proofs.lemmas.Result.{IfOk-weaker, on_err_weaker}
use Rattle.verse_value.specs.Val.{Val}
use Rattle.verse_value.specs.View.{val_of, vals_of}
use Rattle.verse_value_writes.specs.Writes.{Explains}
use Rattle.verse_cells.specs.Changes.{IsWrite, slot_written}
use Rattle.verse_cells.proofs.Places.{in_cell, same_cells, cell_there, read_slot}
use Rattle.verse_cells.proofs.slots.write_at.Goals as goal

pub returns-clause-ok : goal.returns-clause-ok
returns-clause-ok c =
    let there = cell_there c.args.cells.now c.args.at.cell c.args.at.slot c.requires in
    IfOk-weaker c.write_part.result _ _
    (λ ch h. in_cell c.args.at.cell c.args.at.slot
    (IsWrite c.args.spare (vals_of c.args.path.now) c.args.mode (val_of c.args.value) c.args.wanted ch) c.args.cells.now
    c.index-cells-at.result c.write_part.new.slots there h)
    c.write_part.ensures.ok

pub returns-clause-fault : goal.returns-clause-fault
returns-clause-fault c =
    let there = cell_there c.args.cells.now c.args.at.cell c.args.at.slot c.requires in
    let P : Option Val → Type 0 = λ o. IfErr c.write_part.result
    (Explains (slot_written c.args.spare (vals_of c.args.path.now) c.args.mode (val_of c.args.value) o)) in
    subst P (sym (read_slot c.args.cells.now c.args.at.cell c.args.at.slot c.index-cells-at.result there)) c.write_part.ensures.fault

pub returns-clause-same : goal.returns-clause-same
returns-clause-same c =
    let there = cell_there c.args.cells.now c.args.at.cell c.args.at.slot c.requires in
    on_err_weaker c.write_part.result
    (λ e. same_cells c.args.at.cell c.args.cells.now c.index-cells-at.result c.write_part.new.slots there e)
    c.write_part.ensures.same
