use Rattle.std.proofs.Common.{refl, sym, subst, arith}
use Rattle.verse_value.specs.Store.{with_cell}
use Rattle.verse_value.specs.View.{vals_of}
use Rattle.verse_cells.specs.Held.{Held, store_of}
use Rattle.tx_heap.specs.State.{new_cell, IsLight}
use Rattle.tx_heap.proofs.Limits.{grows, slots_weight}
use Rattle.tx_heap.proofs.light_cells.LightCells.push.Goals as goal

pub overflow_add-self : goal.overflow_add-self
overflow_add-self c =
    let cell = new_cell c.args.kind (vals_of c.args.slots.items) in
    let P : Held → Type 0 = λ h. IsLight (with_cell (store_of h) cell) in
    let g = grows c.self.inside.weight c.cell_weight-more.result (store_of c.self.inside.cells)
    (store_of c.push.new.self) cell c.self.invariant
    (slots_weight c.args.kind c.as_slice.result.now c.args.slots.items c.cell_weight-more.result c.as_slice.ensures.value
    c.cell_weight-more.ensures) c.in_ok-address.ensures.ok (subst P (sym c.self.view_is) c.requires.light) in
    omega (arith, g.light)

pub invariant_of-self-2 : goal.invariant_of-self-2
invariant_of-self-2 c =
    let cell = new_cell c.args.kind (vals_of c.args.slots.items) in
    let P : Held → Type 0 = λ h. IsLight (with_cell (store_of h) cell) in
    let g = grows c.self.inside.weight c.cell_weight-more.result (store_of c.self.inside.cells)
    (store_of c.push.new.self) cell c.self.invariant
    (slots_weight c.args.kind c.as_slice.result.now c.args.slots.items c.cell_weight-more.result c.as_slice.ensures.value
    c.cell_weight-more.ensures) c.in_ok-address.ensures.ok (subst P (sym c.self.view_is) c.requires.light) in
    g.weighed _ refl
