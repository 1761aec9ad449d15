-- The lemmas that the goals of a function want, by its name.
use Rattle.sim_clock_tests.proofs.Above.{above_all, above_added, above_removed, above_woken}

pub ruleset of_new = (above_all, above_added, above_removed, above_woken)
