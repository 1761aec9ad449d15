use Rattle.sim_clock.proofs.Pair.{least_from_bound}
use Rattle.sim_clock.proofs.pairs.Pairs.first.Goals as goal

pub returns-clause-least : goal.returns-clause-least
returns-clause-least c = least_from_bound _ _ c.in_ok-first.ensures.member c.in_ok-first.ensures.least
