-- What follows where a task has gone on at its group: where it stands there, those above it go on.
use Rattle.std.specs.Prelude.{List, [], ◌∷◌, map, reverse, Some}
use Rattle.verse_value.specs.Runs.{Line}
use Rattle.verse_meaning_state.specs.State.{State}
use Rattle.verse_code_machine.specs.Tasks.{Who, World, Step}
use Rattle.verse_code_machine.specs.Ends.{grouped, arm_did}
use Rattle.sim_clock.specs.declared.waits.Pending.{Pending}
use Rattle.vm_tasks_laws.specs.Slots.{held}
use Rattle.vm_running.specs.Views.{View, Aside, state_of}
use Rattle.vm_tasks.specs.View.{kind_of, part_of}
use Rattle.vm_scheduler.specs.declared.tasks.Begins.{Begins}
use Rattle.vm_scheduler.specs.declared.tasks.Tasks.{Tasks}
use Rattle.vm_scheduler.specs.declared.tasks.Went.{Went}
use Rattle.vm_scheduler.specs.declared.tasks.Went.TheVariants as went
use Rattle.vm_scheduler.specs.Frames.{threaded, Suspended}
use Rattle.vm_scheduler.specs.Standing.{Standing, Bare}
use Rattle.vm_scheduler.specs.Meets.{Moves, Meets}
use Rattle.vm_group.specs.Groups.{on_rest}
use Rattle.vm_suspend.specs.Idle.{Idle}

module _ {W : Type 0} (pending : W → List Pending) where
  abbrev pub IdleAt : Went → View → Tasks W → Type 0
  IdleAt went.On v t = Unit {0}
  IdleAt (went.Over e) v t = Unit {0}
  IdleAt went.Down v t = Idle pending v t

  -- what a call has come to, and then those above where no task runs
  pub record RestsOn (d r : Went) (v : View) (t : Tasks W) (u : View) (s : Tasks W) : Type 0 where
    pub rests : (q : Step) (past : List Line) → Moves pending q past d v t →
        Meets pending q past r u s

  abbrev pub FromHand : (Begins → World → State → Who → Step) → Begins → Went → View → Tasks W →
      View → Tasks W → Type 0
  FromHand step b r v t u s =
      (a : Aside) (w : Who) (o : World) →
      Standing pending (held b.id w (Some (map part_of b.arms.items)) ∷ []) a o v t → Bare v →
      Suspended w.number b.thread → Meets pending (step b o (state_of a v) w) a.past r u s

  -- the group of a task in hand has its value, or the task stands at it
  pub record SettlesOn (b : Begins) (r : Went) (v : View) (t : Tasks W) (u : View) (s : Tasks W) :
      Type 0 where
    pub meets : FromHand (λ b o s w. grouped (kind_of b.kind) b.place (map part_of b.arms.items)
        (threaded w b.thread) o s (on_rest o s)) b r v t u s

  -- an arm has ended as it began
  pub record ArmEndsOn (b : Begins) (r : Went) (v : View) (t : Tasks W) (u : View) (s : Tasks W) :
      Type 0 where
    pub meets : FromHand (λ b o s w. arm_did (kind_of b.kind) b.place (map part_of b.arms.items)
        (reverse b.labels.items) (threaded w b.thread) o.pre o.post o.ups o.trees s (on_rest o s)) b
        r v t u s
