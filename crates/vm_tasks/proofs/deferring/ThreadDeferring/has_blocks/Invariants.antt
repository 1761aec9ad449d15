use Rattle.std.proofs.Common.{◌≡◌, ◌-◌, ◌≤◌, length, drop}
use Rattle.vm_tasks.specs.Deferring.{any_deferred}
use Rattle.vm_tasks.proofs.deferring.ThreadDeferring.has_blocks.Given as goal

-- none of the frames above has one
abbrev pub invariant-frames : goal.invariant-frames
invariant-frames l = (l.at ≤ length l.self) × (any_deferred (drop (length l.self - l.at) l.self) ≡ any_deferred l.self)

abbrev pub decreases-frames : goal.decreases-frames
decreases-frames l = l.at
