-- The signal of an event.
use Rattle.std.specs.Prelude.{ℕ}
use Rattle.verse_value.specs.Val.{Val}
use Rattle.verse_meaning_state.specs.State.{signalled}
use Rattle.verse_code_machine.specs.Tasks.{Next}
use Rattle.vm_running.specs.Doings.{Doing}

-- the task goes on
abbrev pub signals : ℕ → Val → Doing
signals event v w x s f fs = Next
    (record { who = w; world = x; state = signalled event v s; frame = f; below = fs })
