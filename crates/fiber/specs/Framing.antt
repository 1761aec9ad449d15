-- The frames that heads and levels make.
use Rattle.std.specs.Prelude.{suc, List, [], ◌∷◌, length, drop}
use Rattle.verse_value.specs.declared.values.Value.{Value}
use Rattle.verse_value.specs.View.{vals_of}
use Rattle.fiber_stacks.specs.declared.heads.Bounds.{Bounds}
use Rattle.fiber_stacks.specs.Levels.{Level, below, operands_on, defers_in, noted_in}
use Rattle.fiber_stacks.specs.Heads.{Head}
use Rattle.fiber.specs.Frames.{Handler, Frame}

-- the level beneath each handler
abbrev pub handlers_on : List Bounds → List (Level Value) → List Handler
handlers_on [] ls = []
handlers_on (b ∷ bs) ls =
    record {
      made = b.made;
      label = b.label;
      stack = vals_of (operands_on ls);
      defers = defers_in (suc (length bs)) ls;
      noted = noted_in (suc (length bs)) ls;
    } ∷ handlers_on bs (below ls)

-- a frame has a level, and one more for each handler
abbrev pub frame_on : Head Value → List (Level Value) → Frame
frame_on h ls =
    record {
      locals = vals_of h.locals;
      stack = vals_of (operands_on ls);
      place = h.place;
      handlers = handlers_on h.bounds (below ls);
      defers = defers_in (suc (length h.bounds)) ls;
      noted = noted_in (suc (length h.bounds)) ls;
    }

abbrev pub frames : List (Head Value) → List (Level Value) → List Frame
frames [] ls = []
frames (h ∷ hs) ls = frame_on h ls ∷ frames hs (drop (suc (length h.bounds)) ls)
