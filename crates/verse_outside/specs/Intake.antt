-- What a sink in memory shows.
use Rattle.std.specs.Prelude.{ℕ, ◌-◌, List, min, length}

pub record Intake : Type 0 where
  pub taken : List ℕ
  -- the writes so far
  pub writes : ℕ
  -- the writes that are to fail, by their numbers from 0
  pub failing : List ℕ
  pub faults : ℕ
  -- how many bytes there is room for, those taken included
  pub room : ℕ
  -- how many bytes one write takes at most
  pub most : ℕ

-- how many bytes of a piece of this length a write takes
abbrev pub share : Intake → ℕ → ℕ
share s piece = min (min piece s.most) (s.room - length s.taken)
