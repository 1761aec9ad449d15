use Rattle.std.proofs.Common.{◌≡◌, length, true}
use Rattle.vm_frames.specs.Framed.{is_guarded}
use Rattle.vm_frames.specs.Calls.{unwound}
use Rattle.vm_frames.proofs.threads.Thread.leave_bare.Given as goal

abbrev pub invariant-frames : goal.invariant-frames
invariant-frames l = (is_guarded l.self ≡ true) × (unwound l.self ≡ unwound l.fn.self)

abbrev pub decreases-frames : goal.decreases-frames
decreases-frames l = length l.self
