use Rattle.std.proofs.Common.{◌≡◌, drop, take}
use Rattle.sim_clock.specs.Calls.{AllAllowed, after_all}
use Rattle.sim_clock.proofs.calls.run.Given as goal

-- what is left to do comes out as all would, and what was done are the first calls
abbrev pub invariant-calls : goal.invariant-calls
invariant-calls g l =
    let pending = g.W.Waits.pending in
    record {
      allowed : AllAllowed (drop l.call-index l.calls) (pending l.waits);
      left : after_all (drop l.call-index l.calls) (pending l.waits) ≡ after_all l.calls (pending l.fn.waits);
      made : pending l.waits ≡ after_all (take l.call-index l.calls) (pending l.fn.waits);
    }
