use Rattle.std.proofs.Common.{◌≡◌, map, length}
use Rattle.note_stretches.specs.Noted.{noted}
use Rattle.note_cases.specs.Ends.{end_of, all_ended}
use Rattle.note_cases.proofs.ends.arms_end.Given as goal

-- what is left, from here on, ends as all does from the start
abbrev pub invariant-ends : goal.invariant-ends
invariant-ends l = all_ended (map end_of l.ends.items) (noted l.noting) ≡ all_ended (map end_of l.fn.ends.items) (noted l.fn.noting)

abbrev pub decreases-ends : goal.decreases-ends
decreases-ends l = length l.ends.items
