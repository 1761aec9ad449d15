-- The lemmas that the goals of a function want, by its name.
use Rattle.vm_frames.proofs.Unwound.{skipped, still_guarded, guarded_some, shorter, stays}

pub ruleset of_leave_bare = (skipped, still_guarded, guarded_some, shorter, stays)
