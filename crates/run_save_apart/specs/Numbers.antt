-- The numbers of the tasks of a run. A number is how many steps were left when the task began.
use Rattle.std.specs.Prelude.{◌≤◌, ◌+◌, ℕ, [], ◌∷◌}
use Rattle.verse_meaning_state.specs.Waits.{eqn}
use Rattle.verse_code_machine.specs.Tasks.{Task}
use Rattle.verse_code_machine.specs.Runs.{Forest}
use Rattle.run_save_shots.specs.Lists.{count}

-- how many tasks have a number
abbrev pub numbered : ℕ → Forest → ℕ
numbered n [] = 0
numbered n (ts ∷ tss) = count (λ (y : Task). eqn n y.thread.who.number) ts + numbered n tss

-- no two tasks began with as many steps left
abbrev pub NumbersApart : Forest → Type 0
NumbersApart tss = (n : ℕ) → numbered n tss ≤ 1
