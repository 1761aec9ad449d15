-- What the tasks of a fitting shot stand for, once all of them are put.
use Rattle.std.specs.Prelude.{◌≡◌, eqb, List, ◌∷◌, ◌++◌, length, map, Option, option_map}
use Rattle.std.specs.List.{IsDistinct}
use Rattle.sim_clock.specs.declared.waits.Pending.{Pending}
use Rattle.verse_code.specs.declared.codes.Code.{Code}
use Rattle.verse_code.specs.Validity.{Valid}
use Rattle.vm_tasks_laws.specs.Standing.{Rests}
use Rattle.vm_tasks_laws.specs.Clocks.{sleeping, Timed}
use Rattle.vm_tasks.specs.View.{slot_of}
use Rattle.vm_scheduler.specs.declared.tasks.Given.{Given}
use Rattle.vm_scheduler.specs.Frames.{frames_in}
use Rattle.vm_scheduler.specs.Standing.{given_of, AllFine, Untold}
use Rattle.run_save_shots.specs.Kept.{KeptTask, Kept}
use Rattle.run_save_shots.specs.Fitting.{Fits}
use Rattle.run_save_shots.specs.Spelling.{state, trees}
use Rattle.run_save_slots.specs.Started.{number_of, Starts}
use Rattle.run_save_numbers.specs.Numbers.{numbers}
use Rattle.run_save_slots.specs.Slots.{Suits}
use Rattle.run_save_trees.specs.declared.tables.Restored.{Restored}
use Rattle.run_save_trees.specs.Restoring.{IsEmpty, AllPut}

-- the tree stands for the trees that are spelled, and a clock with the waits for those of its tasks
pub record StandsFor (c : Code) (s : Kept) (r : Restored) : Type 0 where
  pub rests : Rests (slot_of frames_in) r.tree (trees c s)
  pub fine : AllFine s.left r.tree
  -- what spawned tasks gave
  pub untold : (results : List (Option Given)) →
      s.spawned ≡ map (λ o. option_map given_of o) results → Untold results r.tree
  pub distinct : IsDistinct eqb (map number_of r.waits.items)
  pub timed : (ps : List Pending) → Starts r.waits.items ps →
      Timed (sleeping (slot_of frames_in) r.tree) ps (state s)

abbrev pub TasksStand : Type 0
TasksStand = (c : Code) (s : Kept) (old new : Restored) → Fits c s → IsEmpty old →
    AllPut c s s.tasks old new → StandsFor c s new

-- each task, where it stands in the list, suits the numbers that it has among all
abbrev pub TasksSuit : Type 0
TasksSuit = (c : Code) (s : Kept) (before : List KeptTask) (t : KeptTask) (ts : List KeptTask) →
    Valid c → Fits c s → s.tasks ≡ before ++ t ∷ ts → Suits t (numbers s (length before) t ts)
