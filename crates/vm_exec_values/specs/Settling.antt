-- A local that takes the place of an operand.
use Rattle.std.specs.Prelude.{◌≢◌, ℕ}
use Rattle.verse_value.specs.Val.{Val}
use Rattle.verse_value.specs.Answer.{Answer, fails}
use Rattle.vm_frames.specs.Calls.{with_local}
use Rattle.vm_running.specs.Views.{View}

abbrev pub CannotFail : Answer Val → Type 0
CannotFail a = a ≢ fails

-- with a value in a local of the top frame
abbrev pub holding : ℕ → Val → View → View
holding l w v = record v { frames = with_local l w v.frames }
