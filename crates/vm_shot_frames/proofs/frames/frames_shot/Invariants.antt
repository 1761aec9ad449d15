use Rattle.std.proofs.Common.{◌≡◌, ◌≤◌, ◌-◌, ◌++◌, length, drop, map}
use Rattle.run_save_shots.specs.View.{frame_of}
use Rattle.vm_shot_frames.specs.Frames.{from_top}
use Rattle.vm_shot_frames.proofs.frames.frames_shot.Given as goal

-- what is kept of the frames above, and what is to come, are all
abbrev pub invariant-frames : goal.invariant-frames
invariant-frames l =
    (l.at ≤ length l.thread) × (map frame_of l.frames.items ++ from_top l.behind (drop (length l.thread - l.at) l.thread) ≡ from_top l.arms
    l.thread)

abbrev pub decreases-frames : goal.decreases-frames
decreases-frames l = l.at
