-- A number above those of all waits, as a test.
use Rattle.std.specs.Prelude.{ℕ, nat_lt, Bool, true, ◌&&◌, List, [], ◌∷◌}
use Rattle.sim_clock.specs.declared.waits.Pending.{Pending}

abbrev pub is_above_all : ℕ → List Pending → Bool
is_above_all number [] = true
is_above_all number (p ∷ ps) = nat_lt p.wait.number number && is_above_all number ps
