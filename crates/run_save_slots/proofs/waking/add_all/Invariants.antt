use Rattle.std.proofs.Common.{◌≡◌, take, map}
use Rattle.run_save_slots.specs.Started.{started, Rises}
use Rattle.run_save_slots.proofs.waking.add_all.Given as goal

abbrev pub invariant-waits : goal.invariant-waits
invariant-waits g l = let pending = g.W.Waits.pending in pending l.waits ≡ map started (take l.wait-index l.wait-items)
