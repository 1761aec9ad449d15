-- The numbers of a task that is kept, of its frames and of its children.
use Rattle.std.specs.Prelude.{ℕ, zero, suc, ◌+◌, ◌≤◌, List, [], ◌∷◌, length}
use Rattle.verse_base.specs.declared.limits.TheConstants.{MOST_STEPS}
use Rattle.run_save_shots.specs.Lists.{Each, EachAt, from}
use Rattle.run_save_shots.specs.Kept.{KeptTask, Kept}
use Rattle.run_save_shots.specs.Fitting.{arms_of, ParentBefore}
use Rattle.run_save_shots.specs.Naming.{number_at, is_begun_since, arm_at}
use Rattle.run_save_shots.specs.Spelling.{born}

pub record Numbers : Type 0 where
  -- the task's own
  pub own : ℕ
  -- of its frames, the lowest first
  pub borns : List ℕ
  -- of the first child that is in the background of none of its frames; without one the steps that
  -- are left
  pub above : ℕ
  -- for each arm of its group that of the child
  pub arms : List ℕ

module _ (s : Kept) where
  -- of so many frames from a depth on, of the task at a place
  abbrev pub borns_from : (at depth frames : ℕ) → (own ts : List KeptTask) → List ℕ
  borns_from at depth zero own ts = []
  borns_from at depth (suc frames) own ts =
      born s at depth own (suc frames) ts ∷ borns_from at (suc depth) frames own ts

  -- of so many arms from a place on
  abbrev pub arms_from : (at place arms : ℕ) → List KeptTask → List ℕ
  arms_from at place zero ts = []
  arms_from at place (suc arms) ts = arm_at s at place ts ∷ arms_from at (suc place) arms ts

  -- of the task at a place, behind which these stand
  abbrev pub numbers : ℕ → KeptTask → List KeptTask → Numbers
  numbers at t ts = record {
    own = number_at s (t ∷ ts);
    borns = borns_from at 0 (length t.frames) (t ∷ ts) ts;
    above = number_at s (from (is_begun_since at (length t.frames)) ts);
    arms = arms_from at 0 (length (arms_of t.rest)) ts;
  }

  -- of all tasks from a place on
  abbrev pub numbers_from : ℕ → List KeptTask → List Numbers
  numbers_from at [] = []
  numbers_from at (t ∷ ts) = numbers at t ts ∷ numbers_from (suc at) ts

-- all numbers are far below 2^64, and each task stands behind its parent
pub record Countable (s : Kept) : Type 0 where
  pub steps : s.left + s.spent ≤ MOST_STEPS
  pub few : length s.tasks ≤ s.spent
  pub frames : Each (λ (t : KeptTask). length t.frames ≤ s.spent) s.tasks
  pub parents : EachAt ParentBefore 0 s.tasks
