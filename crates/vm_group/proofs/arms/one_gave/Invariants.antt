use Rattle.std.proofs.Common.{◌≡◌, drop, map, is_some}
use Rattle.verse_code_machine.specs.Ends.{first_did}
use Rattle.vm_tasks.specs.View.{part_of}
use Rattle.vm_group.proofs.arms.one_gave.Given as goal

abbrev pub invariant-arms : goal.invariant-arms
invariant-arms l = is_some (first_did (map part_of (drop l.arm-index l.arms))) ≡ is_some (first_did (map part_of l.arms))
