-- How a run goes on from turn to turn, and how it ends.
use Rattle.std.specs.Prelude.{ℕ, zero, suc, List, [], ◌∷◌, length, Option, Some, None, cond, nat_lt}
use Rattle.verse_value.specs.Runs.{Run}
use Rattle.verse_value.specs.declared.runs.Ending.{Ending}
use Rattle.verse_value.specs.declared.runs.Ending.TheVariants as ending
use Rattle.verse_meaning_state.specs.State.{State, spending, at_moment}
use Rattle.verse_meaning_state.specs.Waits.{Wait, Due, least}

-- what several arms give: the tuple of their values; the value of the first, and the others are
-- cancelled; or it, and the others go on behind
pub data Kind : Type 0 where
  sync : Kind
  race : Kind
  rush : Kind

-- where a run stands between two turns; its tasks are an A
pub data Stage (A : Type 0) : Type 0 where
  going : State → A → Stage A
  -- it has ended before a turn, and what waits still stands
  closed : Ending → State → A → Stage A
  -- it has ended within a turn
  broken : Ending → State → Stage A
  -- what no sound program and no valid code comes to
  amiss : State → Stage A

module _ {A : Type 0} where
  -- the least wait is due: not above the horizon, and for a step
  abbrev pub turn_at : ℕ → Option Due → State → A → (Due → State → Stage A) → Stage A
  turn_at until None s tasks go = closed ending.Waiting s tasks
  turn_at until (Some due) s tasks go =
      cond (nat_lt until due.given.moment) (closed ending.Until s tasks) (spending s.clock.left s (closed ending.Steps s tasks) (λ s. go
      due (at_moment due.given.moment s)))

  -- before a turn: the run ends, or goes on with the next wait
  abbrev pub turn : ℕ → List Wait → State → A → (Due → State → Stage A) → Stage A
  turn until [] s tasks go = closed ending.Done s tasks
  turn until (w ∷ ws) s tasks go = turn_at until (least s (w ∷ ws)) s tasks go

  -- so many turns, where none has ended the run
  abbrev pub turns : (State → A → Stage A) → ℕ → Stage A → Stage A
  turns take zero stage = stage
  turns take (suc n) (going s tasks) = turns take n (take s tasks)
  turns take (suc n) stage = stage

  -- what still waits where no turn has ended the run from within
  abbrev pub waits_in : (A → List Wait) → Stage A → List Wait
  waits_in waits (going s tasks) = waits tasks
  waits_in waits (closed e s tasks) = waits tasks
  waits_in waits (broken e s) = []
  waits_in waits (amiss s) = []

abbrev pub run : State → Ending → Option ℕ → Run
run s e live = record {
  trace = s.memory.trace;
  store = s.memory.store;
  ending = e;
  now =
      s.clock.now;
  steps = s.clock.spent;
  live = live;
}

-- how many waits are live counts where the run has ended by itself
abbrev pub run_closed : Ending → State → ℕ → Run
run_closed ending.Steps s live = run s ending.Steps None
run_closed e s live = run s e (Some live)

abbrev pub run_of : {A : Type 0} → (A → List Wait) → Stage A → Run
run_of waits (going s tasks) = run s ending.Stuck None
run_of waits (closed e s tasks) = run_closed e s (length (waits tasks))
run_of waits (broken e s) = run s e None
run_of waits (amiss s) = run s ending.Stuck None
