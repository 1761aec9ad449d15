use Rattle.std.proofs.Common.{◌<◌, length, ap, rules}
use Rattle.verse_cells.specs.Held.{store_of}
use Rattle.tx_heap.specs.Logged.{dues_of}
use Rattle.tx_heap.proofs.Undoing.{whole_less, joined_less}
use Rattle.tx_heap.proofs.undo_heap.UndoHeapHeap.commit.Goals as goal

pub invariant_of-self-else-is_empty : goal.invariant_of-self-else-is_empty
invariant_of-self-else-is_empty c =
    let some : 0 < length c.pop.new.self.items = search rules in
    whole_less c.self.inside.log.items (store_of c.self.inside.cells) c.self.inside.marks.items c.pop.new.self.items c.in-Some._mark
    c.in-Some.ensures.items some c.self.invariant

pub returns-else-is_empty-clause-due : goal.returns-else-is_empty-clause-due
returns-else-is_empty-clause-due c =
    joined_less (length c.self.inside.log.items) c.self.inside.marks.items c.pop.new.self.items _ c.in-Some._mark
    (ap dues_of c.self.view_is) c.in-Some.ensures.items
