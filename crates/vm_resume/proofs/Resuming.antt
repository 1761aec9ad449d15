-- The parts that are made of a shot are those of a machine between two turns.
use Rattle.std.proofs.Common.{List, [], refl}
use Rattle.verse_code.specs.declared.codes.Code.{Code}
use Rattle.verse_meaning_state.specs.State.{State}
use Rattle.verse_code_machine.specs.Runs.{Forest}
use Rattle.sim_clock.specs.declared.waits.Pending.{Pending}
use Rattle.vm_running.specs.Views.{View}
use Rattle.vm_scheduler.specs.declared.tasks.Tasks.{Tasks}
use Rattle.run_save_shots.specs.Kept.{Kept}
use Rattle.run_save_shots.specs.Spelling.{state, trees}
use Rattle.run_save_spelled.specs.Laws.{Resumable}
use Rattle.run_save_machine.specs.Resting.{RestsIn}
use Rattle.vm_run.specs.Origins.{IsResumable}
use Rattle.vm_run.specs.Reaching.{Rested}
use Rattle.vm_resume.specs.Steps.{steps_of}

pub rested : {W : Type 0} (pending : W → List Pending) (s : State) (tss : Forest) (v : View) (t : Tasks W) →
    RestsIn pending s tss v t → Rested pending s tss [] v t
rested pending s tss v t r = record { aside = r.aside; same = r.past; is = r.is; resting = r.resting }

pub resumable : (c : Code) (x : Kept) → Resumable c x → IsResumable c (steps_of x) (state x) (trees c x)
resumable c x r = record {
  steps_are = refl;
  can = r.can;
  state_belongs = r.state_belongs;
  trees_belong = r.trees_belong;
}
