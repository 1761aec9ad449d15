use Rattle.std.proofs.Common.{ap, ◌∙◌}
use Rattle.lower_notes.specs.States.{gives}
use Rattle.note_states.specs.View.{state_of}
use Rattle.note_states.proofs.Changes.{one_above}
use Rattle.note_states.proofs.Lists.{any_is}
use Rattle.note_states.proofs.states.State.above.Goals as goal

pub operands-preserved : goal.operands-preserved
operands-preserved c =
    one_above c.args.count c.operands._operand (state_of c.operands.self) _ _ c.operands-test.true
    (c.in_ok-gives.ensures ∙ ap (λ a. gives 0 a (state_of c.operands.self)) any_is)
    c.operands.invariant
