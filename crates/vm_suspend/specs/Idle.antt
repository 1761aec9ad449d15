-- What follows where no task runs.
use Rattle.std.specs.Prelude.{◌≡◌, List, [], ◌∷◌, ◌++◌, map, reverse, Some}
use Rattle.std.specs.Global.{Vec}
use Rattle.verse_code_machine.specs.Tasks.{Who, runs, World}
use Rattle.verse_code_machine.specs.Ends.{rested, next_arm}
use Rattle.sim_clock.specs.declared.waits.Pending.{Pending}
use Rattle.vm_tasks_laws.specs.Slots.{held}
use Rattle.vm_running.specs.Views.{View, Aside, state_of}
use Rattle.vm_tasks.specs.View.{kind_of, part_of}
use Rattle.vm_scheduler.specs.declared.tasks.Begins.{Begins}
use Rattle.vm_scheduler.specs.declared.tasks.Up.{Up}
use Rattle.vm_scheduler.specs.declared.tasks.Tasks.{Tasks}
use Rattle.vm_scheduler.specs.declared.tasks.Went.{Went}
use Rattle.vm_scheduler.specs.Frames.{threaded, Suspended}
use Rattle.vm_scheduler.specs.Ups.{ups_of}
use Rattle.vm_scheduler.specs.Standing.{Standing, Bare}
use Rattle.vm_scheduler.specs.Meets.{Moves, Meets}
use Rattle.vm_group.specs.Groups.{on_rest}

module _ {W : Type 0} (pending : W → List Pending) where
  -- no task runs, somewhere
  pub record Idle (v : View) (t : Tasks W) : Type 0 where
    pub aside : Aside
    pub world : World
    pub standing : Standing pending [] aside world v t
    pub bare : Bare v

  -- from wherever no task runs
  pub record RestsTo (r : Went) (v : View) (t : Tasks W) (u : View) (s : Tasks W) : Type 0 where
    pub rests : (a : Aside) (o : World) → Standing pending [] a o v t → Bare v →
        Meets pending (rested o.pre o.post o.ups o.trees (state_of a v)) a.past r u s

  -- with this one still above
  pub record Above (x : Up) (v : View) (t : Tasks W) : Type 0 where
    pub ups : Vec Up
    pub are : ups_of ups.items ≡ x ∷ ups_of t.ups.items
    pub idle : Idle v (record t { ups = ups })

  pub record GoesUp (x : Up) (r : Went) (v : View) (t : Tasks W) (u : View) (s : Tasks W) :
      Type 0 where
    pub goes : (ups : Vec Up) (a : Aside) (o : World) → ups_of ups.items ≡ x ∷ ups_of t.ups.items →
        Standing pending [] a o v (record t { ups = ups }) → Bare v →
        Moves pending (rested o.pre o.post o.ups o.trees (state_of a v)) a.past r u s

  -- the task of a group, one of whose arms is suspended
  pub record AboveGroup (b : Begins) (v : View) (t : Tasks W) : Type 0 where
    pub aside : Aside
    pub who : Who
    pub world : World
    pub standing : Standing pending
        (held b.id who (Some (map part_of b.arms.items ++ runs b.number ∷ [])) ∷ []) aside world v t
    pub bare : Bare v
    pub suspended : Suspended who.number b.thread

  pub record GroupUp (b : Begins) (r : Went) (v : View) (t : Tasks W) (u : View) (s : Tasks W) :
      Type 0 where
    pub goes : (a : Aside) (w : Who) (o : World) →
        Standing pending (held b.id w (Some (map part_of b.arms.items ++ runs b.number ∷ [])) ∷ [])
        a o v t → Bare v → Suspended w.number b.thread →
        Moves pending (next_arm (kind_of b.kind) b.place
        (map part_of b.arms.items ++ runs b.number ∷ []) (reverse b.labels.items)
        (threaded w b.thread) o.pre o.post o.ups o.trees (state_of a v) (on_rest o (state_of a v)))
        a.past r u s
