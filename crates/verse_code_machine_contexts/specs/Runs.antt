-- Which machines a run comes to, operation by operation.
use Rattle.std.specs.Prelude.{◌≡◌, ℕ, suc, ℤ, List, [], Option, Some, slice_get, nat_lt, false}
use Rattle.verse_code.specs.declared.operations.Op.{Op}
use Rattle.verse_code.specs.declared.codes.Func.{Func}
use Rattle.verse_code.specs.declared.codes.Code.{Code}
use Rattle.verse_value.specs.declared.runs.Ending.{Ending}
use Rattle.verse_meaning_state.specs.State.{State, begun, stepped, at_moment}
use Rattle.verse_meaning_state.specs.Waits.{Due, least}
use Rattle.verse_meaning_state.specs.Turns.{Stage, going, closed}
use Rattle.verse_code_machine.specs.Tasks.{Machine, Step, Next, tree_waits}
use Rattle.verse_code_machine.specs.Frames.{on_there}
use Rattle.verse_code_machine.specs.Ends.{woken_in}
use Rattle.verse_code_machine.specs.Runs.{step, Forest, main_starts, mach_after, stage_of}

-- the operation that the machine carries out next
abbrev pub op_at : Code → Machine → Option Op
op_at c m = slice_get c.ops m.frame.place

-- how a turn of the run begins: Main starts, or the wait that is due is woken
pub data Begins (c : Code) (ns : List ℤ) (steps until : ℕ) : Step → Type 0 where
  main : Begins c ns steps until (on_there (slice_get c.functions c.main) (begun steps)
      (λ (f : Func). main_starts ns (begun steps) f))
  woken : (k left : ℕ) (s : State) (tss : Forest) (due : Due) →
      mach_after c ns steps until k ≡ going s tss → least s (tree_waits tss) ≡ Some due →
      nat_lt until due.given.moment ≡ false → s.clock.left ≡ suc left →
      Begins c ns steps until
      (woken_in due.number due.given.value [] tss (at_moment due.given.moment (stepped left s)))

-- after some operations it comes to this step
pub data Comes (c : Code) : Step → Step → Type 0 where
  at_once : {q : Step} → Comes c q q
  later : {k : Machine} {q : Step} → Comes c (step c k) q → Comes c (Next k) q

-- A stage of a run is where operations come to, from the beginning of a turn; or the run has ended
-- before a turn.
pub data Operates (c : Code) (ns : List ℤ) (steps until : ℕ) : Stage Forest → Type 0 where
  operates : (start q : Step) → Begins c ns steps until start → Comes c start q →
      Operates c ns steps until (stage_of q)
  ended : (e : Ending) (s : State) (tss : Forest) → Operates c ns steps until (closed e s tss)

-- In every run: after Main's start and each number of turns.
abbrev pub TurnsOperate : Type 0
TurnsOperate = (c : Code) (ns : List ℤ) (steps until k : ℕ) →
    Operates c ns steps until (mach_after c ns steps until k)

-- a machine of a run
pub record InRun (c : Code) (ns : List ℤ) (steps until : ℕ) (m : Machine) : Type 0 where
  pub start : Step
  pub begins : Begins c ns steps until start
  pub comes : Comes c start (Next m)
