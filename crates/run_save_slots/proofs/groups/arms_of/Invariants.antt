use Rattle.std.proofs.Common.{◌≡◌, ◌+◌, ◌++◌, length, map, option_map, drop, reverse}
use Rattle.verse_value.specs.View.{val_of}
use Rattle.vm_tasks.specs.View.{part_of}
use Rattle.run_save_slots.specs.Slots.{parts}
use Rattle.run_save_slots.proofs.groups.arms_of.Given as goal

abbrev pub invariant-arms : goal.invariant-arms
invariant-arms l = record {
  long : l.at + length l.arms.items ≡ length l.numbers;
  so_far : map part_of l.made.items ++ parts (map (option_map val_of) (reverse l.arms.items)) (drop l.at l.numbers) ≡
      parts (map (option_map val_of) l.fn.arms.items) l.numbers;
}

abbrev pub decreases-arms : goal.decreases-arms
decreases-arms l = length l.arms.items
