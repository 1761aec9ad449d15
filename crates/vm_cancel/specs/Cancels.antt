-- What a task has begun is cancelled.
use Rattle.std.specs.Prelude.{◌≡◌, ◌≤◌, ℕ, Bool, List, [], ◌∷◌, map, reverse, Option, Some, None}
use Rattle.task_tree.specs.Tasks.{Task, task_at, HasNoChild}
use Rattle.verse_code_machine.specs.Tasks as m
use Rattle.verse_code_machine.specs.Tasks.{Who, Part, World, Step, Over, since, beneath_arms}
use Rattle.verse_code_machine.specs.Cancelling.{world_without, cancelled, clears}
use Rattle.verse_code_machine.specs.Ends.{follows}
use Rattle.sim_clock.specs.declared.waits.Pending.{Pending}
use Rattle.vm_tasks_laws.specs.Slots.{held}
use Rattle.vm_tasks_laws.specs.Standing.{Stands, who_after}
use Rattle.vm_frames.specs.Framed.{Framed}
use Rattle.vm_running.specs.Views.{View, Aside, state_of}
use Rattle.vm_tasks.specs.declared.slots.Slot.{Slot}
use Rattle.vm_tasks.specs.View.{slot_of}
use Rattle.vm_tasks.specs.Deferring.{deferring}
use Rattle.vm_scheduler.specs.declared.tasks.Tasks.{Tasks}
use Rattle.vm_scheduler.specs.declared.tasks.After.{After}
use Rattle.vm_scheduler.specs.declared.tasks.Went.{Went}
use Rattle.vm_scheduler.specs.declared.tasks.Went.TheVariants as went
use Rattle.vm_scheduler.specs.Frames.{frames_in, AllUnguarded}
use Rattle.vm_scheduler.specs.Ups.{ups_of, UpsAre, IsAfter}
use Rattle.vm_scheduler.specs.Standing.{ids, Clocked, Standing, Bare}
use Rattle.vm_scheduler.specs.Going.{NothingUnder, frames_at}
use Rattle.vm_scheduler.specs.Meets.{GoesOn, Ends}

module _ {W : Type 0} (pending : W → List Pending) where
  -- the tasks of such names are gone, and the frames of those are kept in the order in which they
  -- are cancelled
  pub record Cancelled (id : ℕ) (w : Who) (arms : Option (List Part)) (f : List ℕ → Bool)
      (a : Aside) (o : World) (v : View) (s : Tasks W) : Type 0 where
    pub clock : Clocked pending a v s
    pub stands : Stands (slot_of frames_in) s.tree (ids s) (held id w arms ∷ []) (world_without f o)
    pub ups : UpsAre (ups_of s.ups.items) o.ups
    pub still : s.after ≡ None
    pub todo_is : map frames_in (reverse s.gone.frames.items) ≡
        map frames_at (deferring (cancelled f o))
    pub unguarded : AllUnguarded s.gone.frames.items
    pub nothing_under : NothingUnder (world_without f o) (cancelled f o)

  pub record Cancels (id bound : ℕ) (t s : Tasks W) : Type 0 where
    pub scope : (a : Aside) (w : Who) (arms : Option (List Part)) (o : World) (v : View) →
        Standing pending (held id w arms ∷ []) a o v t →
        Cancelled id w arms (since w.path bound) a o v s
    pub arms : (a : Aside) (w : Who) (gs : List Part) (o : World) (v : View) →
        ((u : Task (Slot (List Framed))) → task_at id t.tree ≡ Some u → u.item.since ≡ bound) →
        Standing pending (held id w (Some gs) ∷ []) a o v t →
        Cancelled id w (Some gs) (beneath_arms w.path gs) a o v s
    pub childless : (a : Aside) (w : Who) (arms : Option (List Part)) (o : World) (v : View) →
        w.number ≤ bound → Standing pending (held id w arms ∷ []) a o v t → HasNoChild id s.tree

  -- no block is to run: what follows is known
  pub record Follows (id : ℕ) (after : After) (q : Step) (f : m.After) (a : Aside) (o : World)
      (v : View) (s : Tasks W) : Type 0 where
    pub is : q ≡ follows f o (state_of a v)
    pub standing : Standing pending (held id (who_after f) None ∷ []) a o v
        (record s { after = None })
    pub bare : Bare v
    pub after_is : s.after ≡ Some after
    pub follows_is : IsAfter s.tree id after f
    pub id_is : s.id ≡ id

  abbrev pub BlocksTo : (id : ℕ) → After → Step → m.After → Went → Aside → World → View → Tasks W →
      View → Tasks W → Type 0
  BlocksTo id after q f went.On a o v t u s = GoesOn pending q a.past u s
  BlocksTo id after q f (went.Over e) a o v t u s = Ends pending q a.past e u
  BlocksTo id after q f went.Down a o v t u s = Follows id after q f a o u s

  pub record RunsBlocks (id : ℕ) (after : After) (r : Went) (v : View) (t : Tasks W) (u : View)
      (s : Tasks W) : Type 0 where
    pub runs : (f : m.After) (todo : List m.Task) (a : Aside) (o : World) → Bare v →
        Clocked pending a v t → Stands (slot_of frames_in) t.tree (ids t)
        (held id (who_after f) None ∷ []) o → UpsAre (ups_of t.ups.items) o.ups →
        map frames_in (reverse t.gone.frames.items) ≡ map frames_at (deferring todo) →
        AllUnguarded t.gone.frames.items → NothingUnder o todo → IsAfter t.tree id after f →
        BlocksTo id after (clears (follows f) f todo o (state_of a v)) f r a o v t u s
