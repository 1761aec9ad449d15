use Rattle.std.proofs.Common.{◌≡◌, map, reverse, length}
use Rattle.verse_value.specs.View.{vals_of}
use Rattle.verse_code_machine.specs.Ends.{all_did}
use Rattle.vm_tasks.specs.View.{part_of}
use Rattle.vm_group.proofs.Gave.{with_more}
use Rattle.vm_group.proofs.arms.values_of.Given as goal

abbrev pub invariant-arms : goal.invariant-arms
invariant-arms l = with_more (all_did (map part_of l.arms.items)) (vals_of (reverse l.values.items)) ≡ all_did (map part_of l.fn.arms.items)

abbrev pub decreases-arms : goal.decreases-arms
decreases-arms l = length l.arms.items
