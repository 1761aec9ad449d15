-- The trees of tasks, planted task by task.
use Rattle.std.specs.Prelude.{◌≡◌, ℕ, [], ◌∷◌}
use Rattle.verse_code_machine.specs.Runs.{Forest}
use Rattle.verse_code_machine_parents.specs.Parents.{TreesRooted}
use Rattle.run_save_shots.specs.Keeping.{walk}
use Rattle.run_save_shots.specs.Spelling.{grown}
use Rattle.run_save_kept.specs.Orders.{Orderly}

-- without the trees in which no task is left
abbrev pub filled : Forest → Forest
filled [] = []
filled ([] ∷ tss) = filled tss
filled ((t ∷ ts) ∷ tss) = (t ∷ ts) ∷ filled tss

-- planted in the order in which they are kept, the tasks are the trees again
abbrev pub TreesGrowAgain : Type 0
TreesGrowAgain = (left : ℕ) (tss : Forest) → TreesRooted left tss → Orderly left tss →
    grown [] (walk tss) ≡ filled tss
