use Rattle.std.proofs.Common.{arith}
use Rattle.std.proofs.lemmas.List.{length-map}
use Rattle.verse_cells.specs.View.{cell_of, cells_of}
use Rattle.verse_cells.proofs.Weights.{length_store_weight}
use Rattle.tx_heap.proofs.light_list.LightList.len.Goals as goal

pub overflow_cast-result : goal.overflow_cast-result
overflow_cast-result c =
    omega (
      arith,
      c.len.ensures,
      length-map c.self.inside.cells.items cell_of,
      length_store_weight (cells_of c.self.inside.cells.items),
      c.self.invariant.sum,
      c.self.invariant.light,
    )
