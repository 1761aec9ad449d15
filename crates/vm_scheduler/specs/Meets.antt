-- What a call comes to in the machine's definition.
use Rattle.std.specs.Prelude.{◌≡◌, List, []}
use Rattle.verse_value.specs.declared.runs.Ending.{Ending}
use Rattle.verse_value.specs.Runs.{Line}
use Rattle.verse_code_machine.specs.Tasks as m
use Rattle.verse_code_machine.specs.Tasks.{World, Step, Over, Turn}
use Rattle.verse_code_machine.specs.Ends.{rested}
use Rattle.sim_clock.specs.declared.waits.Pending.{Pending}
use Rattle.vm_running.specs.Views.{View, Aside, state_of}
use Rattle.vm_running.specs.Doings.{Doing, going}
use Rattle.vm_running.specs.Comes.{done}
use Rattle.vm_scheduler.specs.declared.tasks.Tasks.{Tasks}
use Rattle.vm_scheduler.specs.declared.tasks.Went.{Went}
use Rattle.vm_scheduler.specs.declared.tasks.Went.TheVariants as went
use Rattle.vm_scheduler.specs.Standing.{Standing, Bare}
use Rattle.vm_scheduler.specs.Going.{Scene, Going, Resting}

module _ {W : Type 0} (pending : W → List Pending) where
  -- a task goes on
  pub record GoesOn (q : Step) (past : List Line) (v : View) (t : Tasks W) : Type 0 where
    pub scene : Scene
    pub same : scene.aside.past ≡ past
    pub goes : Going pending scene v t
    pub is : q ≡ done going scene.aside scene.who scene.world v

  pub record Ends (q : Step) (past : List Line) (e : Ending) (v : View) : Type 0 where
    pub aside : Aside
    pub same : aside.past ≡ past
    pub is : q ≡ Over e (state_of aside v)

  -- the task that ran is suspended, or over: what follows is asked of those above it
  pub record Lies (q : Step) (past : List Line) (v : View) (t : Tasks W) : Type 0 where
    pub aside : Aside
    pub world : World
    pub same : aside.past ≡ past
    pub standing : Standing pending [] aside world v t
    pub bare : Bare v
    pub is : q ≡ rested world.pre world.post world.ups world.trees (state_of aside v)

  -- the turn is over
  pub record TurnsOver (q : Step) (past : List Line) (v : View) (t : Tasks W) : Type 0 where
    pub aside : Aside
    pub trees : List (List m.Task)
    pub same : aside.past ≡ past
    pub resting : Resting pending aside trees v t
    pub is : q ≡ Turn (state_of aside v) trees

  -- a task runs, or the run is over
  abbrev pub MovesOn : Step → List Line → Went → View → Tasks W → Type 0
  MovesOn q past went.On v t = GoesOn q past v t
  MovesOn q past (went.Over e) v t = Ends q past e v
  MovesOn q past went.Down v t = ⊥

  -- where no task runs, some may be above it
  abbrev pub Moves : Step → List Line → Went → View → Tasks W → Type 0
  Moves q past went.On v t = GoesOn q past v t
  Moves q past (went.Over e) v t = Ends q past e v
  Moves q past went.Down v t = Lies q past v t

  -- where no task runs, the turn is over
  abbrev pub Meets : Step → List Line → Went → View → Tasks W → Type 0
  Meets q past went.On v t = GoesOn q past v t
  Meets q past (went.Over e) v t = Ends q past e v
  Meets q past went.Down v t = TurnsOver q past v t

  -- from wherever a task runs a doing comes to what is answered
  pub record Comes (d : Doing) (r : Went) (v : View) (t : Tasks W) (u : View) (s : Tasks W) :
      Type 0 where
    pub comes : (m : Scene) → Going pending m v t →
        Meets (done d m.aside m.who m.world v) m.aside.past r u s
