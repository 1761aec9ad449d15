-- What a machine is that is made of what is kept.
use Rattle.std.specs.Prelude.{◌≡◌, ℕ, List, [], Option, None}
use Rattle.verse_meaning_state.specs.State.{State}
use Rattle.verse_code_machine.specs.Runs.{Forest}
use Rattle.sim_clock.specs.declared.waits.Pending.{Pending}
use Rattle.vm_running.specs.Views.{View, Aside, state_of}
use Rattle.vm_scheduler.specs.declared.tasks.Tasks.{Tasks}
use Rattle.vm_scheduler.specs.declared.tasks.Given.{Given}
use Rattle.vm_scheduler.specs.Going.{Resting}
use Rattle.run_save_slots.specs.Started.{Starts}
use Rattle.run_save_trees.specs.declared.tables.Restored.{Restored}

module _ {W : Type 0} (pending : W → List Pending) where
  -- it stands between two turns in this state, with these trees of tasks, and of its lines none was
  -- drained
  pub record RestsIn (s : State) (trees : Forest) (v : View) (t : Tasks W) : Type 0 where
    pub aside : Aside
    pub past : aside.past ≡ []
    pub is : s ≡ state_of aside v
    pub resting : Resting pending aside trees v t

  -- it has these tasks, which are all suspended, with their waits, and these results
  pub record Holds (r : Restored) (results : List (Option Given)) (next : ℕ) (t : Tasks W) : Type 0
    where
      pub tree : t.tree ≡ r.tree
      pub waits : Starts r.waits.items (pending t.gone.waits)
      pub frames : t.gone.frames.items ≡ []
      pub ups : t.ups.items ≡ []
      pub after : t.after ≡ None
      pub next_is : t.next ≡ next
      pub results_are : t.results.items ≡ results
      pub signals : t.signals.items ≡ []
