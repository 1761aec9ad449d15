-- When what is kept has the parts of a machine, and what it then spells.
use Rattle.std.specs.Prelude.{◌≡◌, ◌+◌, List, length, map, option_map}
use Rattle.trace_buf.specs.Trace.{printed_size}
use Rattle.verse_code_machine.specs.Runs.{Forest}
use Rattle.sim_clock.specs.declared.waits.Pending.{Pending}
use Rattle.vm_running.specs.Views.{View, Aside, state_of}
use Rattle.vm_tasks.specs.View.{slot_of}
use Rattle.vm_scheduler.specs.declared.tasks.Tasks.{Tasks}
use Rattle.vm_scheduler.specs.Frames.{frames_in}
use Rattle.vm_scheduler.specs.Standing.{given_of}
use Rattle.vm_scheduler.specs.Going.{Resting}
use Rattle.run_save_shots.specs.Kept.{Kept}
use Rattle.run_save_shots.specs.Keeping.{Spells}
use Rattle.run_save_apart.specs.Numbers.{NumbersApart}
use Rattle.vm_shot_laws.specs.Tree.{kept_tasks}

module _ {W : Type 0} where
  -- numbers, cells, spawned entries and tasks are those of the machine
  pub record PartsAre (x : Kept) (v : View) (t : Tasks W) : Type 0 where
    pub left : x.left ≡ v.left
    pub spent : x.spent ≡ v.spent
    pub now : x.now ≡ v.moment
    pub next : x.next ≡ t.next
    pub bytes : x.bytes ≡ printed_size v.trace
    pub lines : x.lines ≡ v.trace.lines + length v.trace.kept
    pub cells : x.cells ≡ v.heap.cells
    pub spawned : x.spawned ≡ map (λ o. option_map given_of o) t.results.items
    pub tasks : x.tasks ≡ kept_tasks (slot_of frames_in) t.tree

module _ {W : Type 0} (pending : W → List Pending) where
  -- each state and trees for which the machine stands, where no two tasks began with as many steps
  -- left
  abbrev pub SpellsEach : Kept → View → Tasks W → Type 0
  SpellsEach x v t = (a : Aside) (trees : Forest) → Resting pending a trees v t →
      NumbersApart trees → Spells x (state_of a v) trees
