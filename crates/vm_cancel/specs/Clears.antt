-- Deferred blocks of cancelled tasks.
use Rattle.std.specs.Prelude.{◌≡◌, ◌≤◌, List, [], ◌∷◌, ◌++◌, map, reverse}
use Rattle.verse_code_machine.specs.Tasks as m
use Rattle.verse_code_machine.specs.Tasks.{Frame, Who, clearing, World, world, Step, Over}
use Rattle.verse_code_machine.specs.Cancelling.{clears_frames, clears}
use Rattle.verse_meaning_state.specs.State.{State}
use Rattle.vm_frames.specs.Framed.{Framed}
use Rattle.vm_frames.specs.Machine.{frames_with}
use Rattle.vm_running.specs.Views.{View, Aside, Ready, state_of, frames_of}
use Rattle.vm_running.specs.Doings.{going}
use Rattle.vm_running.specs.Comes.{done}
use Rattle.vm_tasks.specs.Deferring.{deferring}
use Rattle.vm_scheduler.specs.declared.tasks.Tasks.{Tasks}
use Rattle.vm_scheduler.specs.declared.tasks.Went.{Went}
use Rattle.vm_scheduler.specs.declared.tasks.Went.TheVariants as went
use Rattle.vm_scheduler.specs.Frames.{frames_in, Closing, AllUnguarded}
use Rattle.vm_scheduler.specs.Standing.{Bare}
use Rattle.vm_scheduler.specs.Going.{frames_at}

-- a deferred block runs in these frames, and one step is spent
pub record Runs (a : Aside) (v u : View) : Type 0 where
  pub ready : Ready u
  pub closing : Closing (frames_of a u)
  pub fewer : u.left ≤ v.left
  pub still : u ≡ record v { frames = u.frames; left = u.left; spent = u.spent }

abbrev pub ClearsTo : Step → (State → Step) → Went → Aside → Who → World → View → View → Type 0
ClearsTo q next went.On a w o v u = (q ≡ done going a w o u) × Runs a v u
ClearsTo q next (went.Over e) a w o v u = q ≡ Over e (state_of a v)
ClearsTo q next went.Down a w o v u = q ≡ next (state_of a v)

-- where no block runs, nothing is changed
abbrev pub Still : Went → View → View → Type 0
Still went.On v u = Unit {0}
Still (went.Over e) v u = u ≡ v
Still went.Down v u = u ≡ v

pub record ClearsFrames (fs : List Framed) (r : Went) (v u : View) : Type 0 where
  pub still : Still r v u
  pub clears : (next : State → Step) (a : Aside) (w : Who) (o : World) → Bare v →
      ClearsTo (clears_frames next w o (state_of a v) (frames_with fs [])) next r a w o v u

module _ {W : Type 0} where
  -- what is still to be cancelled when the block of a task runs
  pub record Begun (last : World → State → Step) (after : m.After) (todo : List m.Task) (a : Aside)
      (o : World) (v : View) (t : Tasks W)
      (u : View) (s : Tasks W) : Type 0 where
    pub who : Who
    pub front : List m.Task
    pub it : m.Task
    pub later : List m.Task
    pub was : todo ≡ front ++ it ∷ later
    pub who_is : who ≡ it.thread.who
    pub is : clears last after todo o (state_of a v) ≡
        done going a who (world o.pre o.post (clearing after later ∷ o.ups) o.trees) u
    pub runs : Runs a v u
    pub later_is : map frames_in (reverse s.gone.frames.items) ≡ map frames_at (deferring later)
    pub unguarded : AllUnguarded s.gone.frames.items
    pub still : s ≡ record t { gone = record t.gone { frames = s.gone.frames } }

  abbrev pub AllTo : (World → State → Step) → m.After → List m.Task → Went → Aside → World → View →
      Tasks W → View → Tasks W → Type 0
  AllTo last after todo went.On a o v t u s = Begun last after todo a o v t u s
  AllTo last after todo (went.Over e) a o v t u s =
      (clears last after todo o (state_of a v) ≡ Over e (state_of a v)) × (u ≡ v)
  AllTo last after todo went.Down a o v t u s =
      (clears last after todo o (state_of a v) ≡ last o (state_of a v)) × (u ≡ v) ×
      (s.gone.frames.items ≡ []) × (s ≡
      record t { gone = record t.gone { frames = s.gone.frames } })

  pub record ClearsAll (r : Went) (v : View) (t : Tasks W) (u : View) (s : Tasks W) : Type 0 where
    pub clears : (last : World → State → Step) (after : m.After) (todo : List m.Task) (a : Aside)
        (o : World) → Bare v → map frames_in (reverse t.gone.frames.items) ≡
        map frames_at (deferring todo) → AllTo last after todo r a o v t u s
