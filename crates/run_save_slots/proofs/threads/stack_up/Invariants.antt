use Rattle.std.proofs.Common.{◌≡◌, ◌<◌, ◌+◌, [], length, map, drop, reverse}
use Rattle.run_save_shots.specs.Lists.{Each}
use Rattle.run_save_shots.specs.View.{frame_of}
use Rattle.run_save_slots.specs.Stacking.{stacked, IsNear}
use Rattle.run_save_slots.proofs.threads.stack_up.Given as goal

abbrev pub invariant-frames : goal.invariant-frames
invariant-frames l = record {
  long : l.at + length l.frames.items ≡ length l.borns;
  few : length l.thread + length l.frames.items < 4294967295;
  near : Each (IsNear l.arms) (map frame_of (reverse l.frames.items));
  so_far : stacked l.arms (drop l.at l.borns) (map frame_of (reverse l.frames.items)) l.thread ≡
      stacked l.arms l.borns (map frame_of l.fn.frames.items) [];
}

abbrev pub decreases-frames : goal.decreases-frames
decreases-frames l = length l.frames.items
