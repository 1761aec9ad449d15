-- Notes as their bytes give them: the state at an operation has its whole stack, and a height for
-- each open Try.
use Rattle.std.specs.Prelude.{ℕ, ◌-◌, List, [], ◌∷◌, length, take, drop, map, Option, Some, None}
use Rattle.std.specs.Prelude.{Bool, true, ◌&&◌, nat_le, cond, slice_get}
use Rattle.verse_sorts.specs.Sorts.{Sort}
use Rattle.verse_verify_kept.specs.Notes.{ClassNote, FuncNote, Open, Point, Notes}

-- an open Try: its index, and the height of the stack at it
pub record Mark : Type 0 where
  pub index : ℕ
  pub height : ℕ

-- The top of the stack and the innermost Try are the first.
pub record Spot : Type 0 where
  pub func : ℕ
  pub arm : Option Sort
  pub locals : List Sort
  pub stack : List Sort
  pub tries : List Mark
  pub block : Option ℕ
  pub outer : List ℕ
  pub under : ℕ
  pub defers : List ℕ

pub record Table : Type 0 where
  pub classes : List ClassNote
  pub functions : List FuncNote
  pub spots : List (Option Spot)

abbrev pub live_spot : Option (Option Spot) → Option Spot
live_spot None = None
live_spot (Some s) = s

abbrev pub spot_at : Table → ℕ → Option Spot
spot_at t i = live_spot (slice_get t.spots i)

-- how many operands lie above the innermost open Try
abbrev pub room : List Sort → List Mark → ℕ
room st [] = length st
room st (m ∷ ms) = length st - m.height

-- those, and those beneath it
abbrev pub above : List Sort → List Mark → List Sort
above st ms = take (room st ms) st

abbrev pub beneath : List Sort → List Mark → List Sort
beneath st ms = drop (room st ms) st

-- the stack is cut at its open Trys
abbrev pub opens : List Sort → List Mark → List Open
opens st [] = []
opens st (m ∷ ms) =
    record { index = m.index; beneath = above (beneath st (m ∷ ms)) ms } ∷
    opens (beneath st (m ∷ ms)) ms

-- the heights are heights of the stack, the innermost the greatest
abbrev pub even : ℕ → List Mark → Bool
even n [] = true
even n (m ∷ ms) = nat_le m.height n && even m.height ms

abbrev pub cut : Spot → Point
cut s = record {
  func = s.func;
  arm = s.arm;
  locals = s.locals;
  stack = above s.stack s.tries;
  tries = opens s.stack s.tries;
  block = s.block;
  outer = s.outer;
  under = s.under;
  defers = s.defers;
}

-- no run comes to a state with other heights
abbrev pub point_of : Option Spot → Option Point
point_of None = None
point_of (Some s) = cond (even (length s.stack) s.tries) (Some (cut s)) None

abbrev pub notes_of : Table → Notes
notes_of t = record { classes = t.classes; functions = t.functions; points = map point_of t.spots }
