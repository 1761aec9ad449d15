use Rattle.std.proofs.Common.{◌≡◌}
use Rattle.note_states.specs.View.{standing_of}
use Rattle.note_stretches.specs.Noted.{noted, outs_left, outs_marked}
use Rattle.note_stretches.proofs.noting.Noting.mark_outs.Given as goal

-- what is left, from here on, ends as all does from the start
abbrev pub invariant-drops : goal.invariant-drops
invariant-drops l = outs_left l.height (standing_of l.before) (noted l.self) ≡ outs_marked (standing_of l.before) (noted l.fn.self)

abbrev pub decreases-drops : goal.decreases-drops
decreases-drops l = l.height
