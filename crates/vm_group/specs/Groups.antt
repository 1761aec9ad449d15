-- What a task does at its group.
use Rattle.std.specs.Prelude.{ℕ, List, [], ◌∷◌, map, reverse, Some}
use Rattle.verse_meaning_state.specs.State.{State}
use Rattle.verse_code_machine.specs.Tasks as m
use Rattle.verse_code_machine.specs.Tasks.{Who, resuming, World, world, Step, beneath_arms}
use Rattle.verse_code_machine.specs.Cancelling.{cancels}
use Rattle.verse_value.specs.Val.{Val}
use Rattle.vm_frames.specs.Framed.{Framed}
use Rattle.verse_code_machine.specs.Ends.{resumes, grouped, next_arm, arm_did, rested}
use Rattle.sim_clock.specs.declared.waits.Pending.{Pending}
use Rattle.vm_tasks_laws.specs.Slots.{held}
use Rattle.vm_running.specs.Views.{View, Aside, state_of}
use Rattle.vm_tasks.specs.View.{kind_of, part_of}
use Rattle.vm_scheduler.specs.declared.tasks.Begins.{Begins}
use Rattle.vm_scheduler.specs.declared.tasks.Tasks.{Tasks}
use Rattle.vm_scheduler.specs.declared.tasks.Went.{Went}
use Rattle.vm_scheduler.specs.Frames.{threaded, Suspended}
use Rattle.vm_scheduler.specs.Standing.{Standing, Bare}
use Rattle.vm_scheduler.specs.Meets.{MovesOn, Moves}

-- where the task stands at its group, what follows is asked of those above it
abbrev pub on_rest : World → State → m.Task → Step
on_rest o s y = rested (y ∷ o.pre) o.post o.ups o.trees s

module _ {W : Type 0} (pending : W → List Pending) where
  -- from wherever the task of a group is in hand, with these arms, a step of the definition comes
  -- to what is answered
  abbrev pub InHand : (Begins → World → State → Who → Step) → Begins → Went → View → Tasks W →
      View → Tasks W → Type 0
  InHand step b r v t u s =
      (a : Aside) (w : Who) (o : World) →
      Standing pending (held b.id w (Some (map part_of b.arms.items)) ∷ []) a o v t → Bare v →
      Suspended w.number b.thread → Moves pending (step b o (state_of a v) w) a.past r u s

  -- the task of a group is in hand, somewhere
  pub record Hand (b : Begins) (v : View) (t : Tasks W) : Type 0 where
    pub aside : Aside
    pub who : Who
    pub world : World
    pub standing : Standing pending (held b.id who (Some (map part_of b.arms.items)) ∷ []) aside
        world v t
    pub bare : Bare v
    pub suspended : Suspended who.number b.thread

  pub record Settles (b : Begins) (r : Went) (v : View) (t : Tasks W) (u : View) (s : Tasks W) :
      Type 0 where
    pub settles : InHand (λ b o s w. grouped (kind_of b.kind) b.place (map part_of b.arms.items)
        (threaded w b.thread) o s (on_rest o s)) b r v t u s

  pub record NextArm (b : Begins) (r : Went) (v : View) (t : Tasks W) (u : View) (s : Tasks W) :
      Type 0 where
    pub next : InHand (λ b o s w. next_arm (kind_of b.kind) b.place (map part_of b.arms.items)
        (reverse b.labels.items) (threaded w b.thread) o.pre o.post o.ups o.trees s (on_rest o s)) b
        r v t u s

  pub record ArmEnded (b : Begins) (r : Went) (v : View) (t : Tasks W) (u : View) (s : Tasks W) :
      Type 0 where
    pub ended : InHand (λ b o s w. arm_did (kind_of b.kind) b.place (map part_of b.arms.items)
        (reverse b.labels.items) (threaded w b.thread) o.pre o.post o.ups o.trees s (on_rest o s)) b
        r v t u s

  -- it stands at its group
  pub record StandsThere (b : Begins) (r : Went) (v : View) (t : Tasks W) (s : Tasks W) :
      Type 0 where
    pub stands : InHand (λ b o s w. on_rest o s
        (record {
          thread = threaded w b.thread;
          rest =
              m.group (kind_of b.kind) b.place (map part_of b.arms.items);
        })) b r v t v s

  -- a task at a group is in hand, somewhere
  pub record InGroup (id : ℕ) (fs : List Framed) (v : View) (t : Tasks W) : Type 0 where
    pub aside : Aside
    pub who : Who
    pub arms : List m.Part
    pub world : World
    pub standing : Standing pending (held id who (Some arms) ∷ []) aside world v t
    pub bare : Bare v
    pub suspended : Suspended who.number fs

  -- the arms are cancelled, and it goes on
  pub record CancelsArms (id : ℕ) (fs : List Framed) (x : Val) (r : Went) (v : View) (t : Tasks W)
      (u : View) (s : Tasks W) : Type 0 where
    pub cancels : (a : Aside) (w : Who) (gs : List m.Part) (o : World) →
        Standing pending (held id w (Some gs) ∷ []) a o v t → Bare v → Suspended w.number fs →
        MovesOn pending (cancels (λ o s. resumes (threaded w fs) x o s) (resuming (threaded w fs) x)
        (beneath_arms w.path gs) o (state_of a v)) a.past r u s
