-- What becomes of each wait: it is live, or one turn has woken it, or it was cancelled.
use Rattle.std.specs.Prelude.{◌≡◌, ℕ, zero, suc, ◌+◌, ◌-◌, ℤ, List, [], Option, Some, None}
use Rattle.std.specs.Prelude.{Bool, false, cond, nat_lt}
use Rattle.verse_meaning_state.specs.State.{State}
use Rattle.verse_meaning_state.specs.Turns.{Stage, going, closed, broken, amiss}
use Rattle.verse_meaning_state.specs.Waits.{Wait, Due, eqn, least}
use Rattle.verse_meaning.specs.Programs.{Program}
use Rattle.verse_meaning.specs.Runs.{Forest, forest_leaves, turn_taken, started, after}
use Rattle.verse_meaning.specs.RunLaws.{stage_state, count, to_come, chances}

-- ---- which wait a turn wakes

-- the one that is due, where it is not above the horizon and a step is left
abbrev pub due_within : (until left : ℕ) → Option Due → Option ℕ
due_within until left None = None
due_within until zero (Some due) = None
due_within until (suc left) (Some due) = cond (nat_lt until due.given.moment) None (Some due.number)

abbrev pub next_woken : (until : ℕ) → State → Forest → Option ℕ
next_woken until s fs = due_within until s.clock.left (least s (forest_leaves fs))

abbrev pub is_number : ℕ → Option ℕ → Bool
is_number i None = false
is_number i (Some n) = eqn i n

-- ---- how often a number is live, woken, cancelled

-- the waits that are live, where no turn has ended the run from within
abbrev pub stage_leaves : Stage Forest → List Wait
stage_leaves (going s fs) = forest_leaves fs
stage_leaves (closed e s fs) = forest_leaves fs
stage_leaves (broken e s) = []
stage_leaves (amiss s) = []

-- the number is that of a live wait, or still to be drawn
abbrev pub chances_in : ℕ → Stage Forest → ℕ
chances_in i st = chances i (stage_state st) (stage_leaves st)

abbrev pub woken_by : (until i : ℕ) → State → Forest → ℕ
woken_by until i s fs = cond (is_number i (next_woken until s fs)) 1 0

-- after the turn it is neither, and the turn has not woken it
abbrev pub cancelled_by : Program → (until i : ℕ) → State → Forest → ℕ
cancelled_by p until i s fs =
    cond (is_number i (next_woken until s fs)) 0
    (chances i s (forest_leaves fs) - chances_in i (turn_taken p until s fs))

-- in so many turns from a stage on
abbrev pub woken_in : Program → (until i k : ℕ) → Stage Forest → ℕ
woken_in p until i (suc k) (going s fs) =
    woken_by until i s fs + woken_in p until i k (turn_taken p until s fs)
woken_in p until i k st = 0

abbrev pub cancelled_in : Program → (until i k : ℕ) → Stage Forest → ℕ
cancelled_in p until i (suc k) (going s fs) =
    cancelled_by p until i s fs + cancelled_in p until i k (turn_taken p until s fs)
cancelled_in p until i k st = 0

-- before Main's start every number is to be drawn
abbrev pub cancelled_at_start : ℕ → Stage Forest → ℕ
cancelled_at_start i st = 1 - chances_in i st

-- ---- the law

-- no turn has ended the run from within
abbrev pub Stands : Stage Forest → Type 0
Stands (going s fs) = Unit {0}
Stands (closed e s fs) = Unit {0}
Stands (broken e s) = ⊥
Stands (amiss s) = ⊥

-- After k turns a number is exactly one of these: that of a live wait, still to be drawn, woken by
-- exactly one of the turns, or cancelled, by one of them or at the start.
abbrev pub EachHasOneFate : Type 0
EachHasOneFate = (p : Program) (ns : List ℤ) (steps until k i : ℕ) →
    Stands (after p ns steps until k) →
    count i (stage_leaves (after p ns steps until k))
    + to_come i (stage_state (after p ns steps until k))
    + woken_in p until i k (started p ns steps)
    + (cancelled_at_start i (started p ns steps) + cancelled_in p until i k (started p ns steps)) ≡
    1
