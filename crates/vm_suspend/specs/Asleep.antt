-- The running task falls asleep.
use Rattle.std.specs.Prelude.{◌≡◌, ℕ, Some, None}
use Rattle.verse_meaning_state.specs.Waits.{Cause, nth}
use Rattle.verse_code_machine.specs.Tasks.{thread}
use Rattle.verse_code_machine.specs.Ends.{suspends}
use Rattle.verse_code_machine.specs.Acts.{awaits}
use Rattle.sim_clock.specs.declared.waits.WaitKind.{WaitKind}
use Rattle.sim_clock.specs.declared.waits.WaitKind.TheVariants.{At, Never, Task as OnTask, Event}
use Rattle.vm_running.specs.Doings.{Doing}
use Rattle.vm_scheduler.specs.declared.tasks.Tasks.{Tasks}

abbrev pub suspending : Cause → Doing
suspending cause w x s f fs = suspends cause (thread w f fs) x s

abbrev pub awaiting : ℕ → Doing
awaiting entry w x s f fs = awaits (nth s.clock.results entry) entry (thread w f fs) x s

-- a task whose end is awaited has not ended
abbrev pub IsOpen : {W : Type 0} → WaitKind → Tasks W → Type 0
IsOpen (At moment) t = Unit {0}
IsOpen Never t = Unit {0}
IsOpen (OnTask entry) t = nth t.results.items entry ≡ Some None
IsOpen (Event cell) t = Unit {0}
