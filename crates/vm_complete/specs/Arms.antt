-- The arm of a group that is the task of a number.
use Rattle.std.specs.Prelude.{ℕ, ◌+◌, List, [], ◌∷◌, map, Bool, false, Option, Some, None, cond}
use Rattle.verse_meaning_state.specs.Waits.{eqn}
use Rattle.verse_code_machine.specs.Tasks.{Part, did, runs}
use Rattle.verse_code_machine.specs.Ends.{is_run}
use Rattle.vm_frames.specs.Framed.{Framed}
use Rattle.vm_tasks.specs.declared.slots.Held.{Held}
use Rattle.vm_tasks.specs.declared.slots.Held.TheVariants.{ByMachine, Asleep, AtGroup}
use Rattle.vm_tasks.specs.View.{part_of}

abbrev pub is_number : ℕ → Part → Bool
is_number n (did v) = false
is_number n (runs m) = eqn n m

-- its place, where the first of these has the place i
abbrev pub run_at : ℕ → ℕ → List Part → Option ℕ
run_at n i [] = None
run_at n i (g ∷ gs) = cond (is_number n g) (Some i) (run_at n (i + 1) gs)

-- whether a task stands at a group that has it
abbrev pub has_run : ℕ → Held (List Framed) → Bool
has_run n ByMachine = false
has_run n (Asleep fs k kind) = false
has_run n (AtGroup fs g) = is_run n (map part_of g.arms.items)
