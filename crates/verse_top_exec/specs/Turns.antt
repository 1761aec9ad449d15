-- A run turn after turn, and what is written of its trace.
use Rattle.std.specs.Prelude.{◌≡◌, ℕ, suc, List, [], length, None, Option, Result, Ok, Err}
use Rattle.verse_outside.specs.Held.{with_more}
use Rattle.verse_code.specs.declared.codes.Code.{Code}
use Rattle.verse_value.specs.Runs.{Line, Run}
use Rattle.verse_value.specs.declared.runs.Ending.{Ending}
use Rattle.verse_meaning_state.specs.Effects.{printed}
use Rattle.sim_clock.specs.declared.waits.Pending.{Pending}
use Rattle.tx_heap.specs.State.{State as Kept}
use Rattle.vm_run.specs.declared.machines.Phase.TheVariants as phase
use Rattle.vm_run.specs.declared.machines.Vm.{Vm}
use Rattle.vm_run.specs.declared.turns.TurnFault.{TurnFault}
use Rattle.vm_run.specs.declared.turns.TurnFault.TheVariants as turn
use Rattle.vm_run.specs.Standing.{At, LiveIs}
use Rattle.vm_run.specs.Turning.{ending_in, lines_after}
use Rattle.verse_top_exec.specs.declared.stops.Stop.{Stop}
use Rattle.verse_top_exec.specs.declared.stops.Stop.TheVariants as stop
use Rattle.verse_top_exec.specs.Courses.{Course, ComesSoFar, run_on, stage_on}
use Rattle.verse_top_exec.specs.Leaving.{Stopped}

abbrev pub stop_of : TurnFault → Stop
stop_of turn.Memory = stop.Memory
stop_of turn.Failed = stop.Failed

-- the lines of the trace after so many calls
abbrev pub lines_on : Code → Course → ℕ → List Line
lines_on c w k = lines_after c w.origin w.steps w.until k

-- the lines that are written after so many calls, of which none ended the run
pub data Written (c : Code) (w : Course) : ℕ → List Line → Type 0 where
  unbegun : Written c w 0 []
  begun : (k : ℕ) → ending_in (stage_on c w k) ≡ None → Written c w (suc k) (lines_on c w k)

module _ {H W : Type 0} (state : H → Kept) (pending : W → List Pending) (c : Code)
    (w : Course) where
  -- the machine stands after so many calls, and these lines were drained
  abbrev pub StandsAt : (calls : ℕ) → List Line → Vm H W → Type 0
  StandsAt calls past m = At state pending c w.origin w.steps w.until calls past m

  -- the machine stands after so many calls, and their lines are written
  pub record Reached (turn : ℕ) (old new : Option (List ℕ)) (m : Vm H W) : Type 0 where
    pub past : List Line
    pub written : Written c w turn past
    pub at : StandsAt turn past m
    pub taken : new ≡ with_more old (printed past)

  -- the machine shows the end of a run
  pub record Shown (r : Run) (m : Vm H W) : Type 0 where
    pub store : r.store ≡ (state m.run.heap).cells
    pub moment : r.now ≡ m.run.moment
    pub steps : r.steps ≡ m.run.spent
    pub live : LiveIs state pending r.live m

  -- the run has ended, and its trace is written; the machine stands after so many calls, and is
  -- over
  pub record Ended (e : Ending) (old new : Option (List ℕ)) (m : Vm H W) : Type 0 where
    pub ending : e ≡ (run_on c w).ending
    pub shown : Shown (run_on c w) m
    pub taken : new ≡ with_more old (printed (run_on c w).trace)
    pub calls : ℕ
    pub past : List Line
    pub at : StandsAt calls past m
    pub over : m.phase ≡ phase.Ended e

  abbrev pub Goes : (before now : ℕ) → (old new : Option (List ℕ)) → Vm H W → Result Ending Stop →
      Type 0
  Goes before now old new m (Ok e) = Ended e old new m
  Goes before now old new m (Err s) = Stopped (ComesSoFar c w) (ComesSoFar c w) before now old new s
