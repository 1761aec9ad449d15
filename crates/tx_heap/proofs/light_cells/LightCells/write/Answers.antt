use Rattle.std.proofs.Common.{subst}
use Rattle.std.proofs.lemmas.Result.{err_from_is_err_and}
use Rattle.verse_value.specs.View.{val_of, vals_of}
use Rattle.verse_value_writes.specs.Writes.{Explains}
use Rattle.verse_cells.specs.Held.{Held, store_of}
use Rattle.tx_heap.specs.Outcomes.{cells_written, Lands}
use Rattle.tx_heap.proofs.Limits.{write_reweighs, write_lands, fault_lands}
use Rattle.tx_heap.proofs.light_cells.LightCells.write.Goals as goal

pub returns-in_err-change-clause-fault : goal.returns-in_err-change-clause-fault
returns-in_err-change-clause-fault c =
    let P : Held → Type 0 = λ h. Explains (cells_written (store_of h) c.args.at.cell c.args.at.slot (vals_of c.args.path.now) c.args.mode
    (val_of c.args.value)) c.in_err-change.field-0.0 in
    let lands = subst P c.self.view_is (fault_lands (store_of c.self.inside.cells) c.args.at.cell c.args.at.slot c.self.inside.weight
    (vals_of c.args.path.now) c.args.mode (val_of c.args.value) c.in_err-change.field-0.0 c.self.invariant
    c.in_err-change.ensures.fault) in
    let p = err_from_is_err_and c.from_residual.result c.from_residual.ensures.1 in rw (p.1, p.2) lands

pub reweighed-self-inside-requires-clause-within : goal.reweighed-self-inside-requires-clause-within
reweighed-self-inside-requires-clause-within c =
    (write_reweighs c.self.inside.weight (store_of c.self.inside.cells) (store_of c.write.new.self) c.args.at.cell c.args.at.slot
    (vals_of c.args.path.now) c.args.mode (val_of c.args.value) c.args.wanted c.in_ok-change.change c.self.invariant
    c.in_ok-change.ensures.ok).within

pub reweighed-self-inside-requires-clause-light : goal.reweighed-self-inside-requires-clause-light
reweighed-self-inside-requires-clause-light c =
    (write_reweighs c.self.inside.weight (store_of c.self.inside.cells) (store_of c.write.new.self) c.args.at.cell c.args.at.slot
    (vals_of c.args.path.now) c.args.mode (val_of c.args.value) c.args.wanted c.in_ok-change.change c.self.invariant
    c.in_ok-change.ensures.ok).light

pub invariant_of-self-2 : goal.invariant_of-self-2
invariant_of-self-2 c =
    (write_reweighs c.self.inside.weight (store_of c.self.inside.cells) (store_of c.write.new.self) c.args.at.cell c.args.at.slot
    (vals_of c.args.path.now) c.args.mode (val_of c.args.value) c.args.wanted c.in_ok-change.change c.self.invariant
    c.in_ok-change.ensures.ok).weighed c.reweighed-self-inside.result c.reweighed-self-inside.ensures

pub returns-clause-ok : goal.returns-clause-ok
returns-clause-ok c =
    let P : Held → Type 0 = λ h. Lands c.args.wanted
    (cells_written (store_of h) c.args.at.cell c.args.at.slot (vals_of c.args.path.now) c.args.mode (val_of c.args.value))
    (store_of c.write.new.self) c.in_ok-change.change.value in
    subst P c.self.view_is (write_lands (store_of c.self.inside.cells) (store_of c.write.new.self) c.args.at.cell c.args.at.slot
    c.self.inside.weight (vals_of c.args.path.now) c.args.mode (val_of c.args.value) c.args.wanted c.in_ok-change.change
    c.self.invariant c.in_ok-change.ensures.ok)
