use Rattle.std.proofs.Common.{◌≡◌, map, length}
use Rattle.note_states.specs.View.{standing_of}
use Rattle.note_stretches.specs.Noted.{noted}
use Rattle.note_loops.specs.Turns.{turns_closed}
use Rattle.note_loops.proofs.turns.turns_end.Given as goal

-- what is left, from here on, ends as all does from the start
abbrev pub invariant-turns : goal.invariant-turns
invariant-turns l =
    turns_closed (map standing_of l.turns.items) (noted l.noting) ≡ turns_closed (map standing_of l.fn.turns.items) (noted l.fn.noting)

abbrev pub decreases-turns : goal.decreases-turns
decreases-turns l = length l.turns.items
