-- What has been written of a run that is written as it goes on.
use Rattle.std.specs.Prelude.{ℕ, List, [], ◌++◌, Bool, cond, take}
use Rattle.verse_value.specs.Runs.{Run}
use Rattle.verse_meaning_state.specs.State.{State}
use Rattle.verse_meaning_state.specs.Turns.{Stage, going, closed, broken, amiss}
use Rattle.verse_meaning_state.specs.Effects.{printed}
use Rattle.verse_meaning_state.specs.Texts.{heap_lines}

abbrev pub state_in : {A : Type 0} → Stage A → State
state_in (going s tasks) = s
state_in (closed e s tasks) = s
state_in (broken e s) = s
state_in (amiss s) = s

-- the trace as it is printed
abbrev pub trace_text : {A : Type 0} → Stage A → List ℕ
trace_text stage = printed (state_in stage).memory.trace

-- the lines of the trace, and where the heap is asked for those of the first n cells
abbrev pub lines_so_far : Run → (heap : Bool) → (n : ℕ) → List ℕ
lines_so_far r heap n = printed r.trace ++ cond heap (heap_lines 0 (take n r.store)) []

-- What may stand written before the whole text, by the stages after the start and so many turns:
-- nothing, the trace after some turns, or the whole trace and some of the lines that follow.
pub data Streams {A : Type 0} (stages : ℕ → Stage A) (r : Run) (heap : Bool) : List ℕ → Type 0 where
  nothing : Streams stages r heap []
  turns : (k : ℕ) → Streams stages r heap (trace_text (stages k))
  lines : (n : ℕ) → Streams stages r heap (lines_so_far r heap n)
