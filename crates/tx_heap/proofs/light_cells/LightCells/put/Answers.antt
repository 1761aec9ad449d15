use Rattle.std.proofs.Common.{sym, subst}
use Rattle.verse_value.specs.Store.{stored}
use Rattle.verse_value.specs.View.{val_of}
use Rattle.verse_cells.specs.Held.{Held, store_of}
use Rattle.tx_heap.specs.State.{IsLight}
use Rattle.tx_heap.proofs.Limits.{reweighs}
use Rattle.tx_heap.proofs.light_cells.LightCells.put.Goals as goal

pub reweighed-self-inside-requires-clause-within : goal.reweighed-self-inside-requires-clause-within
reweighed-self-inside-requires-clause-within c =
    let P : Held → Type 0 = λ h. IsLight (stored (store_of h) c.args.cell c.args.slot (val_of c.args.value)) in
    (reweighs c.self.inside.weight c.weight.result c.weight-after.result (store_of c.self.inside.cells)
    (store_of c.put-old.new.self) c.args.cell c.args.slot (val_of c.put-old.result)
    (val_of c.args.value) c.self.invariant c.put-old.ensures.old c.weight.ensures c.weight-after.ensures c.put-old.ensures.new
    (subst P (sym c.self.view_is) c.requires.light)).within

pub reweighed-self-inside-requires-clause-light : goal.reweighed-self-inside-requires-clause-light
reweighed-self-inside-requires-clause-light c =
    let P : Held → Type 0 = λ h. IsLight (stored (store_of h) c.args.cell c.args.slot (val_of c.args.value)) in
    (reweighs c.self.inside.weight c.weight.result c.weight-after.result (store_of c.self.inside.cells)
    (store_of c.put-old.new.self) c.args.cell c.args.slot (val_of c.put-old.result)
    (val_of c.args.value) c.self.invariant c.put-old.ensures.old c.weight.ensures c.weight-after.ensures c.put-old.ensures.new
    (subst P (sym c.self.view_is) c.requires.light)).light

pub invariant_of-self : goal.invariant_of-self
invariant_of-self c =
    let P : Held → Type 0 = λ h. IsLight (stored (store_of h) c.args.cell c.args.slot (val_of c.args.value)) in
    (reweighs c.self.inside.weight c.weight.result c.weight-after.result (store_of c.self.inside.cells)
    (store_of c.put-old.new.self) c.args.cell c.args.slot (val_of c.put-old.result)
    (val_of c.args.value) c.self.invariant c.put-old.ensures.old c.weight.ensures c.weight-after.ensures c.put-old.ensures.new
    (subst P (sym c.self.view_is) c.requires.light)).weighed c.reweighed-self-inside.result c.reweighed-self-inside.ensures
