-- The steps of a definition of a variable.
use Rattle.std.specs.Prelude.{ℕ}
use Rattle.verse_sorts.specs.Sorts as s
use Rattle.verse_sorts.specs.Sorts.{Sort}
use Rattle.lower_notes.specs.States.{gives}
use Rattle.lower_notes.specs.Stretches.{Walk, one, ◌then◌}
use Rattle.lower_notes.specs.Applied.{kept}

-- the value goes into a new cell, which goes into a local, and is read again
abbrev pub varied : (l : ℕ) → Sort → Walk
varied l a = one (gives 1 (s.var a)) then kept l (s.var a) then one (gives 1 a)
