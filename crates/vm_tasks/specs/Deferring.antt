-- Which frames have deferred blocks that are still to run.
use Rattle.std.specs.Prelude.{◌≡◌, ℕ, List, [], ◌∷◌, Bool, true, false, cond}
use Rattle.verse_code_machine.specs.Tasks.{Frame, Task}
use Rattle.vm_frames.specs.Framed.{Framed}

abbrev pub is_some : List ℕ → Bool
is_some [] = false
is_some (d ∷ ds) = true

-- of a task
abbrev pub any_deferred : List Framed → Bool
any_deferred [] = false
any_deferred (f ∷ fs) = cond (is_some f.frame.defers) true (any_deferred fs)

-- in the machine's definition
abbrev pub any_defers : List Frame → Bool
any_defers [] = false
any_defers (f ∷ fs) = cond (is_some f.life.defers) true (any_defers fs)

abbrev pub task_defers : Task → Bool
task_defers t = any_defers (t.thread.frame ∷ t.thread.below)

-- the tasks that have a deferred block
abbrev pub deferring : List Task → List Task
deferring [] = []
deferring (t ∷ ts) = cond (task_defers t) (t ∷ deferring ts) (deferring ts)

-- both say the same of a task's frames
abbrev pub Agrees : {F : Type 0} → (F → Bool) → (F → Frame × List Frame) → Type 0
Agrees has_blocks frames = (f : _) → has_blocks f ≡ any_defers ((frames f).0 ∷ (frames f).1)
