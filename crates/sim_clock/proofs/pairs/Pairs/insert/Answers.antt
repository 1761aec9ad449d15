use Rattle.sim_clock.proofs.Pair.{marks_from_updates}
use Rattle.sim_clock.proofs.pairs.Pairs.insert.Goals as goal

pub returns-clause-ok : goal.returns-clause-ok
returns-clause-ok c = marks_from_updates _ _ _ _ _ c.in_ok-insert.ensures.updates
