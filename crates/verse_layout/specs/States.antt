-- The code's stack and its place between two tokens, as the definitions see them.
use Rattle.std.specs.Prelude.{List, map, reverse}
use Rattle.verse_layout.specs.declared.frames.Frame.{Frame}
use Rattle.verse_layout.specs.declared.frames.State.{State}
use Rattle.verse_layout.specs.Frames.{Open, Context}

abbrev pub open_of : Frame → Open
open_of f = record { region = f.region; text = f.text.now; place = f.place }

-- the innermost frame is the code's last one
abbrev pub stack : List Frame → List Open
stack fs = map open_of (reverse fs)

abbrev pub context_of : State → Context
context_of s = record { opened = s.is_opened; line = s.line.now; frames = stack s.frames.items }
