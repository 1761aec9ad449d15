-- When the frames of tasks began, and the numbers of their children.
use Rattle.std.specs.Prelude.{◌≡◌, ◌≤◌, ℕ, suc, List, [], ◌∷◌, ◌++◌}
use Rattle.verse_code_machine.specs.Tasks.{Frame, Thread, Task}
use Rattle.verse_code_machine.specs.Runs.{Forest}
use Rattle.verse_code_machine_parents.specs.Parents.{HandlersBorn}
use Rattle.run_save_shots.specs.Lists.{Each}

-- how many steps were left when each frame began
abbrev pub births : List Frame → List ℕ
births [] = []
births (f ∷ fs) = f.life.born ∷ births fs

-- of a task, its top frame first
abbrev pub births_of : Thread → List ℕ
births_of x = births (x.frame ∷ x.below)

-- each is above the one before, and none is below the bound
abbrev pub Rising : ℕ → List ℕ → Type 0
Rising bound [] = Unit {0}
Rising bound (n ∷ ns) = (bound ≤ n) × Rising (suc n) ns

-- what the open Trys of a frame keep has its birth
abbrev pub KeepsBirth : Frame → Type 0
KeepsBirth f = HandlersBorn f.life.born f.handlers

-- no task is the child of this number of the task of this path
abbrev pub NoChild : Forest → List ℕ → ℕ → Type 0
NoChild tss path n = Each (Each (λ (t : Task). t.thread.who.path ≡ path ++ n ∷ [] → ⊥)) tss

-- a task of the trees, where so many steps are left
pub record IsBorn (left : ℕ) (tss : Forest) (x : Thread) : Type 0 where
  -- its frames began one after the other, the lowest first
  pub rises : Rising left (births_of x)
  pub keeps : Each KeepsBirth (x.frame ∷ x.below)
  -- neither it nor a task that encloses it began later
  pub above : Each (λ n. left ≤ n) x.who.path
  -- no birth of a frame is the number of a child
  pub apart : Each (NoChild tss x.who.path) (births_of x)

abbrev pub AreBorn : ℕ → Forest → Type 0
AreBorn left tss = Each (Each (λ (t : Task). IsBorn left tss t.thread)) tss
