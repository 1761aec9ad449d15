use Rattle.std.proofs.Common.{List, length}
use Rattle.vm_tasks.specs.Gone.{Cleared}
use Rattle.vm_tasks.proofs.table.clear_since.Given as goal

abbrev pub invariant-children : goal.invariant-children
invariant-children g l =
    (new : List _) (after : _) → Cleared g.F.Deferring.has_blocks g.W.Waits.pending l.id l.bound l.tree new l.gone after →
    Cleared g.F.Deferring.has_blocks g.W.Waits.pending l.id l.bound l.fn.tree new l.fn.gone after

abbrev pub decreases-children : goal.decreases-children
decreases-children g l = length l.tree
