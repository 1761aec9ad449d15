-- Which children of a task that is kept are arms of its group, by their numbers.
use Rattle.std.specs.Prelude.{◌≡◌, ℕ, suc, List, ◌∷◌, ◌++◌, length, Some}
use Rattle.verse_code.specs.declared.codes.Code.{Code}
use Rattle.vm_tasks_laws.specs.Slots.{arms_at, ArmedBy}
use Rattle.run_save_shots.specs.Kept.{KeptTask, Kept}
use Rattle.run_save_shots.specs.Fitting.{Fits}
use Rattle.run_save_shots.specs.Naming.{number_at, is_begun_since}
use Rattle.run_save_shots.specs.Lists.{from}
use Rattle.run_save_shots.specs.Spelling.{rest}

-- the number of the first child of a task, at a place and before these, that is in the background
-- of none of its frames
abbrev pub above : Kept → ℕ → KeptTask → List KeptTask → ℕ
above s at t ts = number_at s (from (is_begun_since at (length t.frames)) ts)

-- a task, and behind it in the list one of its children
pub record AreKin (s : Kept) (before : List KeptTask) (t : KeptTask) (mid : List KeptTask)
    (u : KeptTask) (behind : List KeptTask) : Type 0 where
  pub all : s.tasks ≡ before ++ t ∷ (mid ++ u ∷ behind)
  pub parent : u.parent ≡ Some (length before)

abbrev pub ArmsAreYoungest : Type 0
ArmsAreYoungest = (c : Code) (s : Kept) (before : List KeptTask) (t : KeptTask)
    (mid : List KeptTask) (u : KeptTask) (behind : List KeptTask) → Fits c s →
    AreKin s before t mid u behind →
    ArmedBy (suc (above s (length before) t (mid ++ u ∷ behind)))
    (arms_at (rest c s (length before) t (mid ++ u ∷ behind) t.rest)) (number_at s (u ∷ behind))
