-- The next turn of a run.
use Rattle.std.specs.Prelude.{◌≡◌, ℕ, List, []}
use Rattle.verse_value.specs.Runs.{Line}
use Rattle.verse_value.specs.declared.runs.Ending.{Ending}
use Rattle.verse_meaning_state.specs.State.{State}
use Rattle.verse_meaning_state.specs.Waits.{Due}
use Rattle.verse_meaning_state.specs.Turns.{Stage, closed, turn}
use Rattle.verse_code_machine.specs.Tasks.{Step, tree_waits}
use Rattle.verse_code_machine.specs.Ends.{woken_in}
use Rattle.verse_code_machine.specs.Runs.{Forest}
use Rattle.sim_clock.specs.declared.waits.Pending.{Pending}
use Rattle.sim_clock.specs.declared.waits.Due.{Due as ClockDue}
use Rattle.vm_tasks_laws.specs.Clocks.{NextIs}
use Rattle.vm_running.specs.Views.{View, Aside, state_of}
use Rattle.vm_scheduler.specs.declared.tasks.Tasks.{Tasks}
use Rattle.vm_scheduler.specs.declared.tasks.Went.{Went}
use Rattle.vm_scheduler.specs.declared.tasks.Went.TheVariants as went
use Rattle.vm_scheduler.specs.Going.{Resting}
use Rattle.vm_scheduler.specs.Meets.{GoesOn}

-- the run is over before the turn
pub record Closes {W : Type 0} (until : ℕ) (e : Ending) (a : Aside) (tss : Forest) (v : View)
    (t : Tasks W) (u : View) (s : Tasks W) : Type 0 where
  pub is : (go : Due → State → Stage Forest) →
      turn until (tree_waits tss) (state_of a v) tss go ≡ closed e (state_of a v) tss
  pub view : u ≡ v
  pub tasks : s ≡ t

module _ {W : Type 0} (pending : W → List Pending) where
  -- between two turns, somewhere
  pub record Rested (v : View) (t : Tasks W) : Type 0 where
    pub aside : Aside
    pub trees : Forest
    pub resting : Resting pending aside trees v t

  -- the task of the wait that is due next goes on, in the state that the turn begins with
  pub record Turns (until : ℕ) (a : Aside) (tss : Forest) (v u : View) (s : Tasks W) : Type 0 where
    pub due : Due
    pub state : State
    pub is : (go : Due → State → Stage Forest) →
        turn until (tree_waits tss) (state_of a v) tss go ≡ go due state
    pub goes : GoesOn pending (woken_in due.number due.given.value [] tss state) a.past u s

  abbrev pub TurnsTo : ℕ → Went → Aside → Forest → View → Tasks W → View → Tasks W → Type 0
  TurnsTo until went.On a tss v t u s = Turns until a tss v u s
  TurnsTo until (went.Over e) a tss v t u s = Closes until e a tss v t u s
  TurnsTo until went.Down a tss v t u s = ⊥

  -- from wherever no task runs
  pub record TakesTurn (until : ℕ) (r : Went) (v : View) (t : Tasks W) (u : View) (s : Tasks W) :
      Type 0 where
    pub takes : (a : Aside) (tss : Forest) → Resting pending a tss v t →
        TurnsTo until r a tss v t u s

  -- a task runs
  abbrev pub RunsNow : Step → List Line → Went → View → Tasks W → Type 0
  RunsNow q past went.On v t = GoesOn pending q past v t
  RunsNow q past (went.Over e) v t = ⊥
  RunsNow q past went.Down v t = ⊥

  -- a wait that is due next
  pub record CanWake (e : ClockDue) (v : View) (t : Tasks W) : Type 0 where
    pub aside : Aside
    pub trees : Forest
    pub due : Due
    pub resting : Resting pending aside trees v t
    pub next : NextIs (state_of aside v) (pending t.gone.waits) due e

  pub record WakesNext (e : ClockDue) (r : Went) (v : View) (t : Tasks W) (u : View) (s : Tasks W) :
      Type 0 where
    pub wakes : (a : Aside) (tss : Forest) (d : Due) → Resting pending a tss v t →
        NextIs (state_of a v) (pending t.gone.waits) d e →
        RunsNow (woken_in d.number d.given.value [] tss (state_of a v)) a.past r u s
