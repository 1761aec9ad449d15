use Rattle.verse_cells.specs.Held.{store_of}
use Rattle.tx_heap.proofs.Limits.{put_weighs}
use Rattle.tx_heap.proofs.light_cells.LightCells.put_int.Goals as goal

pub invariant_of-self : goal.invariant_of-self
invariant_of-self c =
    put_weighs c.self.inside.weight (store_of c.self.inside.cells) (store_of c.put_int.new.self) c.args.cell c.args.slot _
    c.put_int.result c.self.invariant c.put_int.ensures.old c.put_int.ensures.new c.put_int.ensures.same
