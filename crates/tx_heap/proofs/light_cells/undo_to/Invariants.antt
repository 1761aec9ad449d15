use Rattle.std.proofs.Common.{length}
use Rattle.tx_heap.specs.Undo.{Undoing}
use Rattle.tx_heap.proofs.light_cells.undo_to.Given as goal

abbrev pub invariant-entries : goal.invariant-entries
invariant-entries l = Undoing l.start l.fn.log.items l.fn.cells l.log.items l.cells

abbrev pub decreases-entries : goal.decreases-entries
decreases-entries l = length l.log.items
