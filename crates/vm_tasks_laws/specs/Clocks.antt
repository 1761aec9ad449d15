-- Waits of a clock, and the live waits of the machine's definition.
use Rattle.std.specs.Prelude.{◌≡◌, ◌<◌, ◌≤◌, ℕ, List, [], ◌∷◌, ◌++◌, Option, Some, None, option_map}
use Rattle.task_tree.specs.Tasks.{Task}
use Rattle.verse_value.specs.Val.{Val, unit}
use Rattle.verse_meaning_state.specs.State.{State, Given, Signal}
use Rattle.verse_meaning_state.specs.Waits.{Cause, till, never, done, heard, Wait, nth, given_by}
use Rattle.verse_meaning_state.specs.Waits.{due_of, Due}
use Rattle.verse_code_machine.specs.Tasks.{Rest, asleep, group}
use Rattle.sim_clock.specs.declared.waits.Wait.{Wait as ClockWait}
use Rattle.sim_clock.specs.declared.waits.WaitKind.{WaitKind}
use Rattle.sim_clock.specs.declared.waits.WaitKind.TheVariants.{At, Never, Task as OnTask, Event}
use Rattle.sim_clock.specs.declared.waits.Wake.{Wake}
use Rattle.sim_clock.specs.declared.waits.Due.{Due as ClockDue}
use Rattle.sim_clock.specs.declared.waits.Pending.{Pending}
use Rattle.sim_clock.specs.Pending.{IsAboveAll, removed}
use Rattle.vm_tasks_laws.specs.Slots.{Slot, Held, by_machine, by_itself}
use Rattle.vm_tasks_laws.specs.Standing.{Deal}

abbrev pub cause_of : WaitKind → Cause
cause_of (At moment) = till moment
cause_of Never = never
cause_of (OnTask entry) = done entry
cause_of (Event cell) = heard cell

abbrev pub wait_of : ClockWait → Wait
wait_of w = record { number = w.number; cause = cause_of w.kind }

-- what a task goes on with; the number of a signal is its place among all signals
abbrev pub value_for : State → Cause → (signal : ℕ) → Option Val
value_for s (till moment) c = Some unit
value_for s never c = None
value_for s (done entry) c = option_map (λ (g : Given). g.value)
    (given_by (nth s.clock.results entry))
value_for s (heard event) c = option_map (λ (g : Signal). g.given.value) (nth s.clock.signals c)

-- a wait has the moment that the definition has for it, if any, and goes on with the value
abbrev pub IsDue : Option Given → State → Cause → Option Wake → Type 0
IsDue None s c None = Unit {0}
IsDue None s c (Some wake) = ⊥
IsDue (Some g) s c None = ⊥
IsDue (Some g) s c (Some wake) = (g.moment ≡ wake.at) × (value_for s c wake.cause ≡ Some g.value)

abbrev pub IsTimed : State → Pending → Type 0
IsTimed s p = IsDue (due_of s p.wait.number (cause_of p.wait.kind)) s (cause_of p.wait.kind) p.wake

abbrev pub AllTimed : State → List Pending → Type 0
AllTimed s [] = Unit {0}
AllTimed s (p ∷ ps) = IsTimed s p × AllTimed s ps

-- each number is above those before it
abbrev pub AllAbove : ℕ → List Pending → Type 0
AllAbove n [] = Unit {0}
AllAbove n (p ∷ ps) = (n < p.wait.number) × AllAbove n ps

abbrev pub Rising : List Pending → Type 0
Rising [] = Unit {0}
Rising (p ∷ ps) = AllAbove p.wait.number ps × Rising ps

abbrev pub NoneNewer : ℕ → List Signal → Type 0
NoneNewer n [] = Unit {0}
NoneNewer n (g ∷ gs) = (g.next ≤ n) × NoneNewer n gs

-- by the number of its task in the tree
abbrev pub told : List Pending → List (ℕ × Wait)
told [] = []
told (p ∷ ps) = (p.wait.task, wait_of p.wait) ∷ told ps

abbrev pub waits_told : List (ℕ × Wait) → List Wait
waits_told [] = []
waits_told (x ∷ xs) = x.1 ∷ waits_told xs

abbrev pub with_rest : ℕ → Rest → List (ℕ × Wait) → List (ℕ × Wait)
with_rest id (asleep w) xs = (id, w) ∷ xs
with_rest id (group k p gs) xs = xs

abbrev pub with_held : ℕ → Held → List (ℕ × Wait) → List (ℕ × Wait)
with_held id by_machine xs = xs
with_held id (by_itself f bl r) xs = with_rest id r xs

module _ {T : Type 0} (slot : T → Slot) where
  -- the waits of the tasks of a tree
  abbrev pub sleeping : List (Task T) → List (ℕ × Wait)
  sleeping [] = []
  sleeping (t ∷ ts) = with_held t.number (slot t.item).held (sleeping ts)

-- the waits of a clock are these, by their tasks' numbers in the tree
pub record Timed (xs : List (ℕ × Wait)) (ps : List Pending) (s : State) : Type 0 where
  pub each : Deal xs (told ps)
  pub timed : AllTimed s ps
  pub rising : Rising ps
  pub under_next : IsAboveAll s.clock.next ps
  pub signals : NoneNewer s.clock.next s.clock.signals

-- the wait that is due next, and what its task goes on with
pub record NextIs (s : State) (ps : List Pending) (d : Due) (e : ClockDue) : Type 0 where
  pub front : List Pending
  pub wait : Pending
  pub back : List Pending
  pub is : ps ≡ front ++ wait ∷ back
  pub number : d.number ≡ wait.wait.number
  pub its_number : e.number ≡ wait.wait.number
  pub task : e.task ≡ wait.wait.task
  pub moment : d.given.moment ≡ e.at
  pub value : value_for s (cause_of wait.wait.kind) e.cause ≡ Some d.given.value

abbrev pub SameNext : State → List Pending → Option Due → Option ClockDue → Type 0
SameNext s ps None None = Unit {0}
SameNext s ps None (Some e) = ⊥
SameNext s ps (Some d) None = ⊥
SameNext s ps (Some d) (Some e) = NextIs s ps d e

-- the waits of these are gone, the last first
abbrev pub all_removed : List (ℕ × Wait) → List Pending → List Pending
all_removed [] ps = ps
all_removed (x ∷ xs) ps = removed x.1.number (all_removed xs ps)
