-- What follows where tasks are cancelled, for the task that cancels.
use Rattle.std.specs.Prelude.{◌≡◌, ℕ, List, [], ◌∷◌, map, reverse, Some, None}
use Rattle.verse_code_machine.specs.Tasks as m
use Rattle.verse_code_machine.specs.Tasks.{World}
use Rattle.verse_code_machine.specs.Cancelling.{clears}
use Rattle.verse_code_machine.specs.Ends.{follows}
use Rattle.sim_clock.specs.declared.waits.Pending.{Pending}
use Rattle.vm_tasks_laws.specs.Slots.{held}
use Rattle.vm_tasks_laws.specs.Standing.{Stands, who_after}
use Rattle.vm_running.specs.Views.{View, Aside, state_of}
use Rattle.vm_tasks.specs.View.{slot_of}
use Rattle.vm_tasks.specs.Deferring.{deferring}
use Rattle.vm_scheduler.specs.declared.tasks.After.{After}
use Rattle.vm_scheduler.specs.declared.tasks.Tasks.{Tasks}
use Rattle.vm_scheduler.specs.declared.tasks.Went.{Went}
use Rattle.vm_scheduler.specs.Frames.{frames_in, AllUnguarded}
use Rattle.vm_scheduler.specs.Ups.{ups_of, UpsAre, IsAfter}
use Rattle.vm_scheduler.specs.Standing.{ids, Clocked, Standing, Bare}
use Rattle.vm_scheduler.specs.Going.{NothingUnder, frames_at}
use Rattle.vm_scheduler.specs.Meets.{Meets}

module _ {W : Type 0} (pending : W → List Pending) where
  -- all is cancelled that is to be
  pub record AtEnd (f : m.After) (a : Aside) (o : World) (v : View) (t : Tasks W) : Type 0 where
    pub after : After
    pub after_is : t.after ≡ Some after
    pub follows_is : IsAfter t.tree t.id after f
    pub standing : Standing pending (held t.id (who_after f) None ∷ []) a o v
        (record t { after = None })
    pub bare : Bare v

  pub record IsAtEnd (v : View) (t : Tasks W) : Type 0 where
    pub follows : m.After
    pub aside : Aside
    pub world : World
    pub here : AtEnd follows aside world v t

  pub record Follows (r : Went) (v : View) (t : Tasks W) (u : View) (s : Tasks W) : Type 0 where
    pub meets : (f : m.After) (a : Aside) (o : World) → AtEnd f a o v t →
        Meets pending (follows f o (state_of a v)) a.past r u s

  -- these are cancelled: they are off the tree, and their frames are kept
  pub record Cleared (id : ℕ) (after : After) (f : m.After) (todo : List m.Task) (a : Aside)
      (o : World) (v : View) (t : Tasks W) : Type 0 where
    pub bare : Bare v
    pub clock : Clocked pending a v t
    pub stands : Stands (slot_of frames_in) t.tree (ids t) (held id (who_after f) None ∷ []) o
    pub ups : UpsAre (ups_of t.ups.items) o.ups
    pub todo_is : map frames_in (reverse t.gone.frames.items) ≡ map frames_at (deferring todo)
    pub unguarded : AllUnguarded t.gone.frames.items
    pub nothing_under : NothingUnder o todo
    pub follows_is : IsAfter t.tree id after f

  pub record IsCleared (id : ℕ) (after : After) (v : View) (t : Tasks W) : Type 0 where
    pub follows : m.After
    pub todo : List m.Task
    pub aside : Aside
    pub world : World
    pub here : Cleared id after follows todo aside world v t

  pub record Unwinds (id : ℕ) (after : After) (r : Went) (v : View) (t : Tasks W) (u : View)
      (s : Tasks W) : Type 0 where
    pub meets : (f : m.After) (todo : List m.Task) (a : Aside) (o : World) →
        Cleared id after f todo a o v t →
        Meets pending (clears (follows f) f todo o (state_of a v)) a.past r u s
