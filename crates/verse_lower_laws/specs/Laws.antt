-- What authors rely on, of the machine that runs the code of a program: lines, waits, steps.
use Rattle.std.specs.Prelude.{◌≡◌, ◌≤◌, ◌⊎◌, ◌+◌, ℕ, suc, ℤ, List, [], map, Some, Bool, true}
use Rattle.std.specs.Prelude.{false}
use Rattle.verse_value.specs.Runs.{Line}
use Rattle.verse_meaning_state.specs.State.{State}
use Rattle.verse_meaning_state.specs.Turns.{going}
use Rattle.verse_meaning_state.specs.Waits.{Wait, Due, has, ltn, least}
use Rattle.verse_meaning.specs.Programs.{Program}
use Rattle.verse_meaning.specs.Runs.{Forest, after, forest_leaves}
use Rattle.verse_meaning.specs.RunLaws.{Begins, forest_standing}
use Rattle.verse_code_machine.specs.Tasks.{tree_waits}
use Rattle.verse_code_machine.specs.Runs.{mach, mach_after}
use Rattle.lower_code.specs.Programs.{code_of}
use Rattle.lower_simulation.specs.Seen.{Seen, between, ended, broke_off, seen_of}
use Rattle.lower_simulation_runs.specs.Programs.{CanBeFollowed, Distinct}

-- ---- what is seen of a run after some turns

abbrev pub state_in : Seen → State
state_in (between s ws) = s
state_in (ended e s ws) = s
state_in (broke_off e s) = s

-- the oldest line first
abbrev pub lines : Seen → List Line
lines x = (state_in x).memory.trace

-- the waits that are live; a run that has ended within a turn has none
abbrev pub waits : Seen → List Wait
waits (between s ws) = ws
waits (ended e s ws) = ws
waits (broke_off e s) = []

abbrev pub wait_number : Wait → ℕ
wait_number w = w.number

abbrev pub steps_left : Seen → ℕ
steps_left x = (state_in x).clock.left

abbrev pub steps_spent : Seen → ℕ
steps_spent x = (state_in x).clock.spent

-- whether a wait has had the number
abbrev pub is_drawn : ℕ → Seen → Bool
is_drawn n x = ltn n (state_in x).clock.next

-- whether a wait that is live has it
abbrev pub is_live : ℕ → Seen → Bool
is_live n x = has n (waits x)

-- the turn between the two wakes the wait n, which is due next
abbrev pub Wakes : ℕ → Seen → Seen → Type 0
Wakes n (between s ws) (between t us) = (d : Due) × ((least s ws ≡ Some d) × (d.number ≡ n))
Wakes n x y = ⊥

-- ---- the laws, of each run

module _ (p : Program) (differ : ℕ → ℕ → Bool) (files : ℕ) (ns : List ℤ) (steps until : ℕ) where
  -- the machine that runs the code of the program, after Main's start and k turns
  abbrev pub seen_after : ℕ → Seen
  seen_after k = seen_of tree_waits (mach_after (code_of p differ files) ns steps until k)

  -- lines are only added, at the end
  pub record LinesOfRun : Type 0 where
    pub turn : (k : ℕ) → Begins (lines (seen_after k)) (lines (seen_after (suc k)))
    pub later : (k j : ℕ) → Begins (lines (seen_after k)) (lines (seen_after (k + j)))

  -- each wait that is live has a number of its own, which was drawn
  pub record WaitsOfRun : Type 0 where
    pub distinct : (k : ℕ) → Distinct (map wait_number (waits (seen_after k)))
    pub drawn : (n k : ℕ) → is_live n (seen_after k) ≡ true → is_drawn n (seen_after k) ≡ true

  -- A number has one life: it is drawn, it is live, and once it is gone it never comes back.
  pub record NumbersOfRun : Type 0 where
    -- what is live after a turn was live before it, or is new
    pub old_or_new : (n k : ℕ) → is_live n (seen_after (suc k)) ≡ true →
        (is_live n (seen_after k) ≡ true) ⊎ (is_drawn n (seen_after k) ≡ false)
    pub gone : (n k j : ℕ) → is_drawn n (seen_after k) ≡ true →
        is_live n (seen_after k) ≡ false → is_live n (seen_after (k + j)) ≡ false
    -- what a turn wakes is gone with it
    pub woken : (n k j : ℕ) → Wakes n (seen_after k) (seen_after (suc k)) →
        is_live n (seen_after (suc k + j)) ≡ false

  -- the tasks of the program after k turns, whose waits are those of the machine
  pub record TasksAfter (k : ℕ) : Type 0 where
    pub tasks : Forest
    pub there : after p ns steps until k ≡ going (state_in (seen_after k)) tasks
    pub same : forest_leaves tasks ≡ waits (seen_after k)

  -- Where a turn wakes a wait, all others are still live but those that may have been cancelled: in
  -- another arm of a race or a rush round it, or in the background of a scope in which it stands.
  pub record OthersOfRun : Type 0 where
    pub turn : (n k : ℕ) → Wakes n (seen_after k) (seen_after (suc k)) →
        (t : TasksAfter k) × ((i : ℕ) → has i (forest_standing n t.tasks) ≡ true →
        is_live i (seen_after (suc k)) ≡ true)

  -- the steps that are left and those that are spent are as many as the run was given
  pub record StepsOfRun : Type 0 where
    pub sum : (k : ℕ) → steps_left (seen_after k) + steps_spent (seen_after k) ≡ steps
    pub falls : (k : ℕ) → steps_left (seen_after (suc k)) ≤ steps_left (seen_after k)

  -- the run as it is told at its end: it has the lines of its turns, and spent no more than it had
  pub record WholeRun : Type 0 where
    pub tells : (k : ℕ) → Begins (lines (seen_after k))
        (mach (code_of p differ files) ns steps until).trace
    pub within : (mach (code_of p differ files) ns steps until).steps ≤ steps

-- the program is one that can be followed; inputs, bound and horizon are any
abbrev pub OfEachRun : (Program → (ℕ → ℕ → Bool) → ℕ → List ℤ → ℕ → ℕ → Type 0) → Type 0
OfEachRun Law = (p : Program) (differ : ℕ → ℕ → Bool) (files : ℕ) → CanBeFollowed p files →
    (ns : List ℤ) (steps until : ℕ) → Law p differ files ns steps until

abbrev pub LinesAreKept : Type 0
LinesAreKept = OfEachRun LinesOfRun

abbrev pub WaitsAreDistinct : Type 0
WaitsAreDistinct = OfEachRun WaitsOfRun

abbrev pub NumbersLiveOnce : Type 0
NumbersLiveOnce = OfEachRun NumbersOfRun

abbrev pub OthersStayLive : Type 0
OthersStayLive = OfEachRun OthersOfRun

abbrev pub StepsAreBounded : Type 0
StepsAreBounded = OfEachRun StepsOfRun

abbrev pub RunsTellAll : Type 0
RunsTellAll = OfEachRun WholeRun
