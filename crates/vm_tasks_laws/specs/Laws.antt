-- What holds wherever a tree of tasks stands for the tasks of the definition. Its items are here
-- what they stand for.
use Rattle.std.specs.Prelude.{◌≡◌, ℕ, List, [], ◌∷◌, length, Option, Some, None}
use Rattle.task_tree.specs.Tasks.{Task, task_at, without, HasNoChild}
use Rattle.task_tree.specs.Nested.{IsTree}
use Rattle.verse_value.specs.Val.{Val}
use Rattle.verse_meaning_state.specs.State.{State, signalled, with_result}
use Rattle.verse_meaning_state.specs.Waits.{Wait, Due, least, nth}
use Rattle.verse_code_machine.specs.Tasks as m
use Rattle.verse_code_machine.specs.Tasks.{Frame, root, part, Who, Part, did, Rest, Thread, thread}
use Rattle.verse_code_machine.specs.Tasks.{Up, begins, branching, spawning, Trees}
use Rattle.verse_code_machine.specs.Tasks.{World, world, root_named, child_named, onto, among}
use Rattle.verse_code_machine.specs.Tasks.{planted, tree_waits, since, beneath_arms}
use Rattle.sim_clock.specs.declared.waits.Pending.{Pending}
use Rattle.sim_clock.specs.declared.waits.Due.{Due as ClockDue}
use Rattle.sim_clock.specs.declared.waits.WaitKind.TheVariants.{Task as OnTask, Event}
use Rattle.sim_clock.specs.Pending.{woken, first_due}
use Rattle.vm_tasks_laws.specs.Slots.{Slot, held}
use Rattle.vm_tasks_laws.specs.Standing.{Stands, Rests}
use Rattle.vm_tasks_laws.specs.Cancelling.{CancelsSince}
use Rattle.vm_tasks_laws.specs.Clocks.{sleeping, Timed, NextIs, SameNext}
use Rattle.vm_tasks_laws.specs.Together.{CancelledToo, Joins, Wakes}

abbrev pub itself : Slot → Slot
itself s = s

-- the clock's next wait is the least of the definition, and there are as many waits
abbrev pub NextIsLeast : Type 0
NextIsLeast = (tasks : List (Task Slot)) (tss : List (List m.Task)) (ps : List Pending)
    (s : State) → Rests itself tasks tss → Timed (sleeping itself tasks) ps s →
    SameNext s ps (least s (tree_waits tss)) (first_due ps) × (length (tree_waits tss) ≡ length ps)

-- a signal and a result reach the same waits
abbrev pub SignalsReach : Type 0
SignalsReach = (xs : List (ℕ × Wait)) (ps : List Pending) (s : State) (event : ℕ) (v : Val) →
    Timed xs ps s → Timed xs (woken (Event event)
    (record { at = s.clock.now; cause = length s.clock.signals }) ps) (signalled event v s)

abbrev pub ResultsReach : Type 0
ResultsReach = (xs : List (ℕ × Wait)) (ps : List Pending) (s : State) (entry : ℕ) (v : Val) →
    nth s.clock.results entry ≡ Some None → Timed xs ps s →
    Timed xs (woken (OnTask entry) (record { at = s.clock.now; cause = 0 }) ps)
    (with_result (Some entry) v s)

-- the task of the next wait is the one that the definition wakes
abbrev pub NextWakes : Type 0
NextWakes = (tasks : List (Task Slot)) (tss : List (List m.Task)) (ps : List Pending) (s : State)
    (d : Due) (e : ClockDue) (u : State) → Rests itself tasks tss → IsTree tasks →
    Timed (sleeping itself tasks) ps s → NextIs s ps d e → Wakes itself tasks tss s d e u

-- the youngest children of a task are cancelled as the definition cancels what it has begun since,
-- and in that order
abbrev pub ScopesCancel : Type 0
ScopesCancel = (tasks gone new : List (Task Slot)) (ids : List ℕ) (i : ℕ) (w : Who)
    (arms : Option (List Part)) (o : World) (bound : ℕ) →
    Stands itself tasks ids (held i w arms ∷ []) o → CancelsSince itself i bound tasks gone new →
    CancelledToo itself tasks gone new ids (held i w arms) o (since w.path bound)

-- and so are the arms of its group
abbrev pub ArmsCancel : Type 0
ArmsCancel = (tasks gone new : List (Task Slot)) (ids : List ℕ) (i : ℕ) (w : Who) (gs : List Part)
    (o : World) (bound : ℕ) → Stands itself tasks ids (held i w (Some gs) ∷ []) o → IsTree tasks →
    ((t : Task Slot) → task_at i tasks ≡ Some t → t.item.since ≡ bound) →
    CancelsSince itself i bound tasks gone new →
    CancelledToo itself tasks gone new ids (held i w (Some gs)) o (beneath_arms w.path gs)

-- a part that is over in a later turn is joined with its parent
abbrev pub PartsJoin : Type 0
PartsJoin = (tasks : List (Task Slot)) (ids : List ℕ) (i : ℕ) (w : Who) (xs ys : List m.Task)
    (trees : Trees) → Stands itself tasks ids (held i w None ∷ []) (world xs ys [] trees) →
    IsTree tasks → IsTree (without i tasks) → HasNoChild i tasks → w.role ≡ part →
    Joins itself tasks i w xs ys trees

-- a turn that is over leaves the trees of the definition
abbrev pub TurnsRest : Type 0
TurnsRest = (tasks : List (Task Slot)) (ids : List ℕ) (xs ys : List m.Task) (trees : Trees) →
    Stands itself tasks ids [] (world xs ys [] trees) →
    Rests itself tasks (among (onto xs ys) trees)
