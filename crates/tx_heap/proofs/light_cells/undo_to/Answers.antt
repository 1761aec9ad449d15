use Rattle.std.proofs.Common.{arith}
use Rattle.verse_cells.specs.Held.{store_of}
use Rattle.tx_heap.proofs.Undoing.{can_last, undoing_step}
use Rattle.tx_heap.proofs.light_cells.undo_to.Goals as goal

pub undo_one-requires : goal.undo_one-requires
undo_one-requires c =
    can_last c.entries.log.items c.pop.new.self.items c.in-Some.entry
    (store_of c.entries.cells) c.in-Some.ensures.items c.entries.invariant.undoable

pub entries-preserved : goal.entries-preserved
entries-preserved c =
    undoing_step c.args.start c.args.log.now.items c.args.cells.now c.entries.log.items c.pop.new.self.items c.in-Some.entry c.entries.cells
    c.undo_one.new.cells c.in-Some.ensures.items c.entries.invariant (omega arith) c.undo_one.ensures.cells c.undo_one.ensures.count
