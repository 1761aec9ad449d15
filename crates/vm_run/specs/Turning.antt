-- What a call of a machine comes to, and what it writes.
use Rattle.std.specs.Prelude.{◌≡◌, ℕ, suc, List, ◌++◌, Option, Some, None, IfSome}
use Rattle.verse_outside.specs.Held.{TookPrefix, with_more}
use Rattle.verse_code.specs.declared.codes.Code.{Code}
use Rattle.verse_value.specs.Runs.{Line}
use Rattle.verse_value.specs.declared.runs.Ending.{Ending}
use Rattle.verse_meaning_state.specs.State.{State}
use Rattle.verse_meaning_state.specs.Effects.{printed}
use Rattle.verse_meaning_state.specs.Turns.{Stage, going, closed, broken, amiss}
use Rattle.verse_code_machine.specs.Runs.{Forest}
use Rattle.sim_clock.specs.declared.waits.Pending.{Pending}
use Rattle.tx_heap.specs.State.{State as Kept}
use Rattle.vm_run.specs.declared.machines.Vm.{Vm}
use Rattle.vm_run.specs.Origins.{Origin, stage_after, whole_run}
use Rattle.vm_run.specs.Standing.{IsEnd, At}

-- the ending, where a run has one
abbrev pub ending_in : Stage Forest → Option Ending
ending_in (going s trees) = None
ending_in (closed e s trees) = Some e
ending_in (broken e s) = Some e
ending_in (amiss s) = None

abbrev pub state_in : Stage Forest → State
state_in (going s trees) = s
state_in (closed e s trees) = s
state_in (broken e s) = s
state_in (amiss s) = s

-- the lines of a run after its start and k turns
abbrev pub lines_after : Code → Origin → (steps until k : ℕ) → List Line
lines_after c origin steps until k = (state_in (stage_after c origin steps until k)).memory.trace

-- the text of all lines but those that were drained is taken
pub record TookLines (past all : List Line) (old new : Option (List ℕ)) : Type 0 where
  pub more : List Line
  pub all_are : all ≡ past ++ more
  pub taken : new ≡ with_more old (printed more)

-- a prefix of this text is taken
pub record TookPart (past all : List Line) (old new : Option (List ℕ)) : Type 0 where
  pub more : List Line
  pub all_are : all ≡ past ++ more
  pub taken : TookPrefix old (printed more) new

module _ {H W : Type 0} (state : H → Kept) (pending : W → List Pending) where
  -- it has gone on by one call, and answers the ending where the run is over
  pub record Turned (c : Code) (origin : Origin) (steps until k : ℕ) (past : List Line)
      (o : Option Ending) (m : Vm H W) : Type 0 where
    pub at : At state pending c origin steps until (suc k) past m
    pub answer : o ≡ ending_in (stage_after c origin steps until k)
    pub over : IfSome o (λ e. (e ≡ (whole_run c origin steps until).ending) ×
        IsEnd state pending (whole_run c origin steps until) past m)

  -- it has gone on, and all lines are drained
  pub record TurnedTo (c : Code) (origin : Origin) (steps until k : ℕ) (past : List Line)
      (o : Option Ending) (old new : Option (List ℕ))
      (m : Vm H W) : Type 0 where
    pub turned : Turned c origin steps until k (lines_after c origin steps until k) o m
    pub took : TookLines past (lines_after c origin steps until k) old new

  -- the run is over
  pub record Ran (c : Code) (origin : Origin) (steps until : ℕ) (past : List Line) (e : Ending)
      (m : Vm H W) : Type 0 where
    pub at : At state pending c origin steps until (suc (suc steps)) past m
    pub answer : e ≡ (whole_run c origin steps until).ending
    pub over : IsEnd state pending (whole_run c origin steps until) past m
