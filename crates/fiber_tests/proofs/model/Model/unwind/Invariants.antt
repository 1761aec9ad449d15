use Rattle.std.proofs.Common.{length}
use Rattle.fiber_tests.proofs.model.Model.unwind.Given as goal

abbrev pub decreases-frames : goal.decreases-frames
decreases-frames l = length l.self.frames.items
