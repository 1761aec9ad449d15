use Rattle.std.proofs.Common.{◌≡◌, List, length, drop, sym, subst, ◌∙◌, rules}
use Rattle.std.proofs.lemmas.List.{take_at}
use Rattle.std.proofs.lemmas.Result.{err_from_is_err_and}
use Rattle.verse_value.specs.View.{val_of, vals_of}
use Rattle.verse_value_writes.specs.Writes.{Explains}
use Rattle.verse_cells.specs.View.{cells_of}
use Rattle.verse_cells.specs.declared.slots.Cell.{Cell}
use Rattle.tx_heap.specs.Outcomes.{cells_written, Lands}
use Rattle.tx_heap.specs.Weighed.{IsWeighed}
use Rattle.tx_heap.proofs.Limits.{write_reweighs, write_lands, fault_lands}
use Rattle.tx_heap.proofs.light_list.LightList.write.Goals as goal

pub returns-in_err-change-clause-fault : goal.returns-in_err-change-clause-fault
returns-in_err-change-clause-fault c =
    let cells = c.as_mut_slice.result.now in
    let P : List Cell → Type 0 = λ cs. Explains
    (cells_written (cells_of cs) c.args.at.cell c.args.at.slot (vals_of c.args.path.now) c.args.mode (val_of c.args.value))
    c.in_err-change.field-0.0 in
    let Q : List Cell → Type 0 = λ cs. IsWeighed c.self.inside.weight (cells_of cs) in
    let lands = subst P (c.as_mut_slice.ensures.value ∙ c.self.view_is)
    (fault_lands (cells_of cells) c.args.at.cell c.args.at.slot c.self.inside.weight (vals_of c.args.path.now) c.args.mode
    (val_of c.args.value) c.in_err-change.field-0.0 (subst Q (sym c.as_mut_slice.ensures.value) c.self.invariant)
    c.in_err-change.ensures.fault) in
    let p = err_from_is_err_and c.from_residual.result c.from_residual.ensures.1 in rw (p.1, p.2) lands

pub reweighed-self-inside-requires-clause-within : goal.reweighed-self-inside-requires-clause-within
reweighed-self-inside-requires-clause-within c =
    let Q : List Cell → Type 0 = λ cs. IsWeighed c.self.inside.weight (cells_of cs) in
    (write_reweighs c.self.inside.weight (cells_of c.as_mut_slice.result.now) (cells_of c.write_at.new.cells) c.args.at.cell c.args.at.slot
    (vals_of c.args.path.now) c.args.mode (val_of c.args.value) c.args.wanted c.in_ok-change.change
    (subst Q (sym c.as_mut_slice.ensures.value) c.self.invariant) c.in_ok-change.ensures.ok).within

pub reweighed-self-inside-requires-clause-light : goal.reweighed-self-inside-requires-clause-light
reweighed-self-inside-requires-clause-light c =
    let Q : List Cell → Type 0 = λ cs. IsWeighed c.self.inside.weight (cells_of cs) in
    (write_reweighs c.self.inside.weight (cells_of c.as_mut_slice.result.now) (cells_of c.write_at.new.cells) c.args.at.cell c.args.at.slot
    (vals_of c.args.path.now) c.args.mode (val_of c.args.value) c.args.wanted c.in_ok-change.change
    (subst Q (sym c.as_mut_slice.ensures.value) c.self.invariant) c.in_ok-change.ensures.ok).light

pub invariant_of-self-2 : goal.invariant_of-self-2
invariant_of-self-2 c =
    let Q : List Cell → Type 0 = λ cs. IsWeighed c.self.inside.weight (cells_of cs) in
    let R : List Cell → Type 0 = λ cs. IsWeighed c.reweighed-self-inside.result (cells_of cs) in
    let size : length c.write_at.new.cells ≡ c.self.inside.cells.len = search rules in
    let whole = take_at c.write_at.new.cells (drop (length c.write_at.new.cells) c.self.inside.cells.items) c.self.inside.cells.len size in
    subst R (sym whole) ((write_reweighs c.self.inside.weight (cells_of c.as_mut_slice.result.now)
    (cells_of c.write_at.new.cells) c.args.at.cell c.args.at.slot (vals_of c.args.path.now) c.args.mode
    (val_of c.args.value) c.args.wanted c.in_ok-change.change (subst Q (sym c.as_mut_slice.ensures.value) c.self.invariant)
    c.in_ok-change.ensures.ok).weighed c.reweighed-self-inside.result c.reweighed-self-inside.ensures)

pub returns-clause-ok : goal.returns-clause-ok
returns-clause-ok c =
    let cells = c.as_mut_slice.result.now in
    let Q : List Cell → Type 0 = λ cs. IsWeighed c.self.inside.weight (cells_of cs) in
    let P : List Cell → Type 0 = λ cs. Lands c.args.wanted
    (cells_written (cells_of cs) c.args.at.cell c.args.at.slot (vals_of c.args.path.now) c.args.mode (val_of c.args.value))
    (cells_of c.write_at.new.cells) c.in_ok-change.change.value in
    let S : List Cell → Type 0 = λ cs. Lands c.args.wanted
    (cells_written (cells_of c.args.self.now) c.args.at.cell c.args.at.slot (vals_of c.args.path.now) c.args.mode (val_of c.args.value))
    (cells_of cs) c.in_ok-change.change.value in
    let size : length c.write_at.new.cells ≡ c.self.inside.cells.len = search rules in
    let whole = take_at c.write_at.new.cells (drop (length c.write_at.new.cells) c.self.inside.cells.items) c.self.inside.cells.len size in
    subst S (sym whole) (subst P (c.as_mut_slice.ensures.value ∙ c.self.view_is)
    (write_lands (cells_of cells) (cells_of c.write_at.new.cells) c.args.at.cell c.args.at.slot c.self.inside.weight
    (vals_of c.args.path.now) c.args.mode (val_of c.args.value) c.args.wanted c.in_ok-change.change
    (subst Q (sym c.as_mut_slice.ensures.value) c.self.invariant) c.in_ok-change.ensures.ok))
