use Rattle.std.proofs.Common.{ap, ◌∙◌, ◌++◌}
use Rattle.note_states.proofs.Lists.{indices_done}
use Rattle.note_states.proofs.states.indices.Goals as goal

pub returns : goal.returns
returns c =
    c.in_ok-extend_from_slice.ensures.items
    ∙ ap (λ k. k ++ c.args.outer.now) (c.reverse.ensures.items
    ∙ indices_done c.args.tries.now c.tries.mark-index c.tries.all.items c.tries-test.false c.tries.invariant)
