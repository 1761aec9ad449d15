use Rattle.std.proofs.Common.{◌≡◌, ◌-◌}
use Rattle.lower_notes.specs.Stretches.{above}
use Rattle.note_states.specs.View.{state_of}
use Rattle.note_states.proofs.states.State.above.Given as goal

-- what is left, from here on, ends as all does from the start
abbrev pub invariant-operands : goal.invariant-operands
invariant-operands l = above (l.count - l._operand) (state_of l.self) ≡ above l.count (state_of l.fn.self)
