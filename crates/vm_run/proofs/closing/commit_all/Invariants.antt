use Rattle.std.proofs.Common.{◌≡◌, length}
use Rattle.vm_run.proofs.closing.commit_all.Given as goal

abbrev pub invariant-marks : goal.invariant-marks
invariant-marks g l = (g.H.Heap.state l.heap).cells ≡ (g.H.Heap.state l.fn.heap).cells

abbrev pub decreases-marks : goal.decreases-marks
decreases-marks g l = length (g.H.Heap.state l.heap).copies
