use Rattle.std.proofs.Common.{◌≡◌, map, drop}
use Rattle.vm_tasks.specs.View.{part_of}
use Rattle.vm_complete.specs.Arms.{run_at}
use Rattle.vm_complete.proofs.arms.run_at.Given as goal

abbrev pub invariant-arms : goal.invariant-arms
invariant-arms l = (l.at ≡ l.arm-index) × (run_at l.number l.at (map part_of (drop l.arm-index l.arms)) ≡
    run_at l.number 0 (map part_of l.arms))
