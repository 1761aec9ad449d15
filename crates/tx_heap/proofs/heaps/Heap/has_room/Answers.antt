use Rattle.std.proofs.lemmas.Bool.{le-leb, leb-true}
use Rattle.verse_value.specs.View.{vals_of}
use Rattle.tx_heap.specs.State.{new_cell}
use Rattle.tx_heap.proofs.Limits.{add_keeps, add_kept}
use Rattle.tx_heap.proofs.heaps.Heap.has_room.Goals as goal

pub returns : goal.returns
returns g c =
    let cells = (g.Self.Heap.state c.args.self.now).cells in
    let sum = c.saturating_add.result in
    λ kind.
    let cell = new_cell kind (vals_of c.args.slots.now) in (
      λ h. add_keeps cells cell c.weight.result c.cell_weight.result sum c.weight.ensures.sum c.cell_weight.ensures c.saturating_add.ensures
          (leb-true sum 16000000 h),
      λ p. le-leb sum 16000000 (add_kept cells cell c.weight.result c.cell_weight.result sum c.weight.ensures.sum c.cell_weight.ensures
          c.saturating_add.ensures p),
    )
