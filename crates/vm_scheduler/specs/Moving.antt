-- A task that goes on with a value.
use Rattle.std.specs.Prelude.{ℕ, List, [], ◌∷◌, None}
use Rattle.verse_value.specs.Val.{Val}
use Rattle.verse_code_machine.specs.Tasks.{Who, World}
use Rattle.verse_code_machine.specs.Ends.{resumes}
use Rattle.sim_clock.specs.declared.waits.Pending.{Pending}
use Rattle.vm_tasks_laws.specs.Slots.{held}
use Rattle.vm_frames.specs.Framed.{Framed}
use Rattle.vm_running.specs.Views.{View, Aside, state_of}
use Rattle.vm_scheduler.specs.declared.tasks.Tasks.{Tasks}
use Rattle.vm_scheduler.specs.declared.tasks.Went.{Went}
use Rattle.vm_scheduler.specs.Frames.{threaded, Suspended}
use Rattle.vm_scheduler.specs.Standing.{Standing, Bare}
use Rattle.vm_scheduler.specs.Meets.{MovesOn}

module _ {W : Type 0} (pending : W → List Pending) where
  pub record Resumes (id : ℕ) (fs : List Framed) (x : Val) (r : Went) (v : View) (t : Tasks W)
      (u : View) (s : Tasks W) : Type 0 where
    pub resumes : (a : Aside) (w : Who) (o : World) →
        Standing pending (held id w None ∷ []) a o v t → Bare v → Suspended w.number fs →
        MovesOn pending (resumes (threaded w fs) x o (state_of a v)) a.past r u s
