use Rattle.std.proofs.Common.{◌≡◌, ◌++◌, take, drop}
use Rattle.sim_clock.specs.Pending.{removed}
use Rattle.sim_clock.proofs.vec_waits.place_of.Given as goal

-- it does not stand before the place
abbrev pub invariant-loop-at : goal.invariant-loop-at
invariant-loop-at l = removed l.number l.all ≡ take l.at l.all ++ removed l.number (drop l.at l.all)
