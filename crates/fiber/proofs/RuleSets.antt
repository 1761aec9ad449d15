-- The lemmas that the goals of a function want, by its name.
use Rattle.fiber.proofs.Unwound.{skipped, guarded_below, guarded_some, shorter}
use Rattle.fiber.proofs.Opened.{filled_none, filled_more, same_below, still_some}

pub ruleset of_leave_bare = (skipped, guarded_below, guarded_some, shorter)

pub ruleset of_fill = (filled_none, filled_more, same_below, still_some)
