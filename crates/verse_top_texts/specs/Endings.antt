-- How a run ended, as the last line and the status tell it.
use Rattle.std.specs.Prelude.{ℕ, List, [], Option, Some, None}
use Rattle.verse_value.specs.Runs.{Run}
use Rattle.verse_value.specs.declared.runs.Ending.{Ending}
use Rattle.verse_value.specs.declared.runs.Ending.TheVariants as ending

-- how many waits are live counts where the run has ended by itself
abbrev pub live_of : Ending → ℕ → Option ℕ
live_of ending.Done live = Some live
live_of ending.Waiting live = Some live
live_of ending.Until live = Some live
live_of ending.Steps live = None
live_of (ending.Error k p) live = None
live_of ending.Stuck live = None

-- a run of which the last line tells the end alone
abbrev pub ended : Ending → (now steps live : ℕ) → Run
ended e now steps live = record {
  trace = [];
  store = [];
  ending = e;
  now = now;
  steps = steps;
  live = live_of e live;
}

-- the status that goes with an ending
abbrev pub ending_status : Ending → ℕ
ending_status ending.Done = 0
ending_status ending.Waiting = 3
ending_status ending.Until = 3
ending_status ending.Steps = 3
ending_status (ending.Error k place) = 4
ending_status ending.Stuck = 8
