-- Runs that go on from a state between two turns.
use Rattle.std.specs.Prelude.{◌≡◌, ℕ, suc, ◌+◌, ◌*◌, ◌≤◌, List, [], ◌∷◌, length, true}
use Rattle.verse_code.specs.declared.codes.Code.{Code}
use Rattle.verse_code.specs.Validity.{Valid}
use Rattle.verse_meaning_state.specs.State.{State}
use Rattle.verse_meaning_state.specs.Turns.{Stage, going, turns}
use Rattle.verse_code_machine.specs.Tasks.{Thread, Task}
use Rattle.verse_code_machine.specs.Frames.{free}
use Rattle.verse_code_machine.specs.Runs.{Forest, turn_taken}
use Rattle.verse_code_machine.specs.Laws.{IsWhole, IsOver}
use Rattle.verse_code_machine.specs.Belonging.{StateBelongs, TreesBelong, StageBelongs}

-- the state after k turns from a state between two turns, or as it was where the run ended before
abbrev pub gone_from : Code → (steps until k : ℕ) → State → Forest → Stage Forest
gone_from c steps until k s tss = turns (turn_taken c steps until) k (going s tss)

-- no frame of the task has a handler or a noted place
abbrev pub ThreadIsFree : Thread → Type 0
ThreadIsFree x = free x.frame.handlers x.frame.life.noted x.below ≡ true

abbrev pub TasksAreFree : List Task → Type 0
TasksAreFree [] = Unit {0}
TasksAreFree (t ∷ ts) = ThreadIsFree t.thread × TasksAreFree ts

abbrev pub TreesAreFree : Forest → Type 0
TreesAreFree [] = Unit {0}
TreesAreFree (ts ∷ tss) = TasksAreFree ts × TreesAreFree tss

-- how many frames the tasks have together
abbrev pub tasks_frames : List Task → ℕ
tasks_frames [] = 0
tasks_frames (t ∷ ts) = suc (length t.thread.below) + tasks_frames ts

abbrev pub trees_frames : Forest → ℕ
trees_frames [] = 0
trees_frames (ts ∷ tss) = tasks_frames ts + trees_frames tss

-- what a run can go on from: no suspended task has a handler or a noted place, and for each step
-- that was spent there are at most two frames
pub record CanGoOn (s : State) (tss : Forest) : Type 0 where
  pub are_free : TreesAreFree tss
  pub few : trees_frames tss ≤ 2 * s.clock.spent

-- the operations of each turn come to an end, and the run does
pub record RunEndsFrom (c : Code) (steps until : ℕ) (s : State) (tss : Forest) : Type 0 where
  pub whole : (k : ℕ) → IsWhole (gone_from c steps until k s tss)
  pub over : IsOver (gone_from c steps until (suc steps) s tss)

-- the run's steps are those that are left and those that were spent
abbrev pub RunsEndFrom : Type 0
RunsEndFrom = (c : Code) (steps until : ℕ) (s : State) (tss : Forest) → Valid c →
    s.clock.left + s.clock.spent ≡ steps → CanGoOn s tss → RunEndsFrom c steps until s tss

-- a run that is over stays over
abbrev pub StaysOverFrom : Type 0
StaysOverFrom = (c : Code) (steps until k j : ℕ) (s : State) (tss : Forest) →
    IsOver (gone_from c steps until k s tss) →
    gone_from c steps until (k + j) s tss ≡ gone_from c steps until k s tss

-- from a state that belongs to its code, every state of a run does
abbrev pub RunBelongsFrom : Type 0
RunBelongsFrom = (c : Code) (steps until k : ℕ) (s : State) (tss : Forest) →
    StateBelongs c.classes s → TreesBelong c.classes tss →
    StageBelongs c.classes (gone_from c steps until k s tss)
