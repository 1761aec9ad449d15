-- When a machine can be kept.
use Rattle.std.specs.Prelude.{List}
use Rattle.verse_code.specs.declared.codes.Code.{Code}
use Rattle.verse_code_machine.specs.Runs.{Forest}
use Rattle.verse_code_machine.specs.Belonging.{StoreBelongs}
use Rattle.sim_clock.specs.declared.waits.Pending.{Pending}
use Rattle.vm_running.specs.Views.{View, Aside}
use Rattle.vm_scheduler.specs.declared.tasks.Tasks.{Tasks}
use Rattle.vm_scheduler.specs.Going.{Resting}

-- between two turns, with cells that belong to the code
pub record CanBeShot {W : Type 0} (pending : W → List Pending) (c : Code) (v : View) (t : Tasks W) :
    Type 0 where
  pub aside : Aside
  pub trees : Forest
  pub resting : Resting pending aside trees v t
  pub belongs : StoreBelongs c.classes v.heap.cells
