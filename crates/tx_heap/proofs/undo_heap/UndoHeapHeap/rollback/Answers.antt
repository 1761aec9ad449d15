use Rattle.std.proofs.Common.{ap}
use Rattle.tx_heap.specs.Logged.{state_of}
use Rattle.tx_heap.proofs.Undoing.{whole_back, state_back}
use Rattle.tx_heap.proofs.undo_heap.UndoHeapHeap.rollback.Goals as goal

pub invariant_of-self : goal.invariant_of-self
invariant_of-self c =
    whole_back c.in-Some.mark c.self.inside.log.items c.self.inside.cells c.rewind.new.log.items c.rewind.new.self c.self.inside.marks.items
    c.pop.new.self.items c.in-Some.ensures.items c.rewind.ensures.undone c.rewind.ensures.left c.self.invariant

pub returns-in-Some-clause-back : goal.returns-in-Some-clause-back
returns-in-Some-clause-back c =
    state_back _ c.in-Some.mark c.self.inside.log.items c.self.inside.cells c.rewind.new.log.items c.rewind.new.self
    c.self.inside.marks.items c.pop.new.self.items (ap state_of c.self.view_is) c.in-Some.ensures.items c.rewind.ensures.undone
    c.rewind.ensures.left c.self.invariant
