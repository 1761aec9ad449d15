-- The next arm of a group.
use Rattle.std.specs.Prelude.{ℕ, List, [], ◌∷◌, map, reverse, Some}
use Rattle.verse_code_machine.specs.Tasks as m
use Rattle.verse_code_machine.specs.Tasks.{Who, World, Step}
use Rattle.verse_code_machine.specs.Ends.{next_arm}
use Rattle.sim_clock.specs.declared.waits.Pending.{Pending}
use Rattle.vm_tasks_laws.specs.Slots.{held}
use Rattle.vm_running.specs.Views.{View, Aside, state_of}
use Rattle.vm_tasks.specs.View.{kind_of, part_of}
use Rattle.vm_scheduler.specs.declared.tasks.Begins.{Begins}
use Rattle.vm_scheduler.specs.declared.tasks.Tasks.{Tasks}
use Rattle.vm_scheduler.specs.declared.tasks.Went.{Went}
use Rattle.vm_scheduler.specs.Frames.{threaded, Suspended}
use Rattle.vm_scheduler.specs.Standing.{Standing, Bare}
use Rattle.vm_scheduler.specs.Meets.{MovesOn}

module _ {W : Type 0} (pending : W → List Pending) where
  -- whatever follows where the task stands at its group
  pub record BeginsArm (b : Begins) (label : ℕ) (r : Went) (v : View) (t : Tasks W) (u : View)
      (s : Tasks W) : Type 0 where
    pub begins : (a : Aside) (w : Who) (o : World) (stands : m.Task → Step) →
        Standing pending (held b.id w (Some (map part_of b.arms.items)) ∷ []) a o v t → Bare v →
        Suspended w.number b.thread → MovesOn pending
        (next_arm (kind_of b.kind) b.place (map part_of b.arms.items)
        (label ∷ reverse b.labels.items) (threaded w b.thread) o.pre o.post o.ups o.trees
        (state_of a v) stands) a.past r u s
