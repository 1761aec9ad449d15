-- When the tasks of a shot can be put into a tree.
use Rattle.std.specs.Prelude.{◌≡◌, ℕ, List, [], ◌∷◌, Option, Some, None}
use Rattle.sim_clock.specs.declared.waits.Wait.{Wait}
use Rattle.sim_clock.specs.declared.waits.WaitKind.{WaitKind}
use Rattle.verse_code.specs.declared.codes.Code.{Code}
use Rattle.run_save_shots.specs.Kept.{KeptTask, Kept}
use Rattle.run_save_shots.specs.Fitting.{Fits}
use Rattle.run_save_numbers.specs.Numbers.{Numbers, numbers_from}

-- the wait of a task, by its number in the tree
abbrev pub waits_with : (id : ℕ) → Option (ℕ × WaitKind) → List Wait
waits_with id None = []
waits_with id (Some w) = record { number = w.0; task = id; kind = w.1 } ∷ []

-- these are the tasks of a fitting shot, and their numbers there
pub record AreOf (c : Code) (s : Kept) (ts : List KeptTask) (ns : List Numbers) : Type 0 where
  pub fits : Fits c s
  pub tasks : s.tasks ≡ ts
  pub numbers : ns ≡ numbers_from s 0 s.tasks
