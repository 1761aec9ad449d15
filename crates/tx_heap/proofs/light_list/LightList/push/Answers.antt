use Rattle.std.proofs.Common.{◌≡◌, List, refl, sym, subst, arith, rules}
use Rattle.std.proofs.lemmas.List.{map_push}
use Rattle.verse_value.specs.Store.{with_cell}
use Rattle.verse_value.specs.View.{vals_of}
use Rattle.verse_cells.specs.View.{cells_of}
use Rattle.verse_cells.specs.declared.slots.Cell.{Cell}
use Rattle.tx_heap.specs.State.{new_cell, IsLight}
use Rattle.tx_heap.proofs.Limits.{grows, slots_weight}
use Rattle.tx_heap.proofs.light_list.LightList.push.Goals as goal

pub overflow_add-self : goal.overflow_add-self
overflow_add-self c =
    let cell = new_cell c.args.kind (vals_of c.args.slots.items) in
    let P : List Cell → Type 0 = λ cs. IsLight (with_cell (cells_of cs) cell) in
    let new : cells_of c.push.new.self.items ≡ with_cell (cells_of c.self.inside.cells.items) cell = search (rules, map_push) in
    let g = grows c.self.inside.weight c.cell_weight-more.result (cells_of c.self.inside.cells.items)
    (cells_of c.push.new.self.items) cell c.self.invariant
    (slots_weight c.args.kind c.as_slice.result.now c.args.slots.items c.cell_weight-more.result c.as_slice.ensures.value
    c.cell_weight-more.ensures) new (subst P (sym c.self.view_is) c.requires.light) in
    omega (arith, g.light)

pub invariant_of-self-2 : goal.invariant_of-self-2
invariant_of-self-2 c =
    let cell = new_cell c.args.kind (vals_of c.args.slots.items) in
    let P : List Cell → Type 0 = λ cs. IsLight (with_cell (cells_of cs) cell) in
    let new : cells_of c.push.new.self.items ≡ with_cell (cells_of c.self.inside.cells.items) cell = search (rules, map_push) in
    let g = grows c.self.inside.weight c.cell_weight-more.result (cells_of c.self.inside.cells.items)
    (cells_of c.push.new.self.items) cell c.self.invariant
    (slots_weight c.args.kind c.as_slice.result.now c.args.slots.items c.cell_weight-more.result c.as_slice.ensures.value
    c.cell_weight-more.ensures) new (subst P (sym c.self.view_is) c.requires.light) in
    g.weighed _ refl
