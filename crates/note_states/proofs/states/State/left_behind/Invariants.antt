use Rattle.std.proofs.Common.{◌≡◌, ◌-◌}
use Rattle.lower_notes.specs.States.{left_behind}
use Rattle.note_states.specs.View.{state_of}
use Rattle.note_states.proofs.states.State.left_behind.Given as goal

-- what is left, from here on, ends as all does from the start
abbrev pub invariant-runs : goal.invariant-runs
invariant-runs l = left_behind (l.count - l._run) (state_of l.self) ≡ left_behind l.count (state_of l.fn.self)
