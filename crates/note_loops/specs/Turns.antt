-- Generators that are open, the outermost first.
use Rattle.std.specs.Prelude.{List, [], ◌∷◌, Option}
use Rattle.lower_notes.specs.States.{State}
use Rattle.note_stretches.specs.Noted.{Noted, marked, resumed}

-- a generator takes its next value where x stands
abbrev pub turns_closed : List (Option State) → Noted → Noted
turns_closed [] b = b
turns_closed (x ∷ xs) b = marked (resumed x (turns_closed xs b))
