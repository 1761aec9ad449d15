use Rattle.std.proofs.Common.{◌≡◌, map, length, option_map}
use Rattle.verse_value.specs.View.{val_of}
use Rattle.verse_code_machine.specs.Ends.{first_did}
use Rattle.vm_tasks.specs.View.{part_of}
use Rattle.vm_group.proofs.Gave.{first_or}
use Rattle.vm_group.proofs.arms.first_value.Given as goal

abbrev pub invariant-arms : goal.invariant-arms
invariant-arms l = first_or (map part_of l.arms.items) (option_map val_of l.first) ≡ first_did (map part_of l.fn.arms.items)

abbrev pub decreases-arms : goal.decreases-arms
decreases-arms l = length l.arms.items
