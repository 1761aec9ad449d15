use Rattle.std.proofs.Common.{◌≡◌, ◌-◌, ◌≤◌, length, drop}
use Rattle.vm_tasks.specs.Reading.{place_from}
use Rattle.vm_tasks.proofs.readings.place_of.Given as goal

abbrev pub invariant-arms : goal.invariant-arms
invariant-arms l = (l.at ≤ length l.arms) × (place_from l.number l.at (drop l.at l.arms) ≡ place_from l.number 0 l.arms)

abbrev pub decreases-arms : goal.decreases-arms
decreases-arms l = length l.arms - l.at
