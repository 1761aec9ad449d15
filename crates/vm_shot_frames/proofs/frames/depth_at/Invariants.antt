use Rattle.std.proofs.Common.{◌≡◌, ◌≤◌, ◌-◌, ◌+◌, length, drop}
use Rattle.vm_shot_frames.specs.Frames.{began_before}
use Rattle.vm_shot_frames.proofs.frames.depth_at.Given as goal

-- those of the frames above, and those to come, are all
abbrev pub invariant-frames : goal.invariant-frames
invariant-frames l =
    (l.at ≤ length l.thread) × (l.before + l.at ≤ length l.thread) ×
    (l.before + began_before l.number (drop (length l.thread - l.at) l.thread) ≡ began_before l.number l.thread)

abbrev pub decreases-frames : goal.decreases-frames
decreases-frames l = l.at
