use Rattle.sim_clock.proofs.Pair.{marks_from_updates}
use Rattle.sim_clock.proofs.pairs.Pairs.remove.Goals as goal

pub returns-clause-marks : goal.returns-clause-marks
returns-clause-marks c = marks_from_updates _ _ _ _ _ c.remove.ensures.updates
