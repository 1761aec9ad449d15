-- The steps of a run that goes on from what is kept of it.
use Rattle.std.specs.Prelude.{ℕ, ◌+◌}
use Rattle.run_save_shots.specs.Kept.{Kept}

-- those that were left and those that were spent
abbrev pub steps_of : Kept → ℕ
steps_of s = s.left + s.spent
