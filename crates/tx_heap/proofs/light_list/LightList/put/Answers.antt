use Rattle.std.proofs.Common.{◌≡◌, List, length, drop, sym, subst, ◌∙◌, rules}
use Rattle.std.proofs.lemmas.List.{take_at}
use Rattle.verse_value.specs.Store.{stored}
use Rattle.verse_value.specs.View.{val_of}
use Rattle.verse_cells.specs.View.{cells_of}
use Rattle.verse_cells.specs.declared.slots.Cell.{Cell}
use Rattle.tx_heap.specs.State.{IsLight}
use Rattle.tx_heap.specs.Weighed.{IsWeighed}
use Rattle.tx_heap.proofs.Limits.{reweighs}
use Rattle.tx_heap.proofs.light_list.LightList.put.Goals as goal

pub reweighed-self-inside-requires-clause-within : goal.reweighed-self-inside-requires-clause-within
reweighed-self-inside-requires-clause-within c =
    let cells = c.as_mut_slice.result.now in
    let P : List Cell → Type 0 = λ cs. IsLight (stored (cells_of cs) c.args.cell c.args.slot (val_of c.args.value)) in
    let Q : List Cell → Type 0 = λ cs. IsWeighed c.self.inside.weight (cells_of cs) in
    (reweighs c.self.inside.weight c.weight.result c.weight-after.result (cells_of cells)
    (cells_of c.put-old.new.cells) c.args.cell c.args.slot (val_of c.put-old.result) (val_of c.args.value)
    (subst Q (sym c.as_mut_slice.ensures.value) c.self.invariant) c.put-old.ensures.old c.weight.ensures c.weight-after.ensures
    c.put-old.ensures.new (subst P (sym (c.as_mut_slice.ensures.value ∙ c.self.view_is)) c.requires.light)).within

pub reweighed-self-inside-requires-clause-light : goal.reweighed-self-inside-requires-clause-light
reweighed-self-inside-requires-clause-light c =
    let cells = c.as_mut_slice.result.now in
    let P : List Cell → Type 0 = λ cs. IsLight (stored (cells_of cs) c.args.cell c.args.slot (val_of c.args.value)) in
    let Q : List Cell → Type 0 = λ cs. IsWeighed c.self.inside.weight (cells_of cs) in
    (reweighs c.self.inside.weight c.weight.result c.weight-after.result (cells_of cells)
    (cells_of c.put-old.new.cells) c.args.cell c.args.slot (val_of c.put-old.result) (val_of c.args.value)
    (subst Q (sym c.as_mut_slice.ensures.value) c.self.invariant) c.put-old.ensures.old c.weight.ensures c.weight-after.ensures
    c.put-old.ensures.new (subst P (sym (c.as_mut_slice.ensures.value ∙ c.self.view_is)) c.requires.light)).light

pub invariant_of-self : goal.invariant_of-self
invariant_of-self c =
    let cells = c.as_mut_slice.result.now in
    let P : List Cell → Type 0 = λ cs. IsLight (stored (cells_of cs) c.args.cell c.args.slot (val_of c.args.value)) in
    let Q : List Cell → Type 0 = λ cs. IsWeighed c.self.inside.weight (cells_of cs) in
    let R : List Cell → Type 0 = λ cs. IsWeighed c.reweighed-self-inside.result (cells_of cs) in
    let size : length c.put-old.new.cells ≡ c.self.inside.cells.len = search rules in
    let whole = take_at c.put-old.new.cells (drop (length c.put-old.new.cells) c.self.inside.cells.items) c.self.inside.cells.len size in
    subst R (sym whole) ((reweighs c.self.inside.weight c.weight.result c.weight-after.result (cells_of cells)
    (cells_of c.put-old.new.cells) c.args.cell c.args.slot (val_of c.put-old.result) (val_of c.args.value)
    (subst Q (sym c.as_mut_slice.ensures.value) c.self.invariant) c.put-old.ensures.old c.weight.ensures c.weight-after.ensures
    c.put-old.ensures.new (subst P (sym (c.as_mut_slice.ensures.value ∙ c.self.view_is)) c.requires.light)).weighed
    c.reweighed-self-inside.result c.reweighed-self-inside.ensures)
