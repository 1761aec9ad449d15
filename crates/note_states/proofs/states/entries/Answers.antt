use Rattle.std.proofs.Common.{◌∙◌}
use Rattle.note_states.proofs.Lists.{entries_done}
use Rattle.note_states.proofs.states.entries.Goals as goal

pub returns : goal.returns
returns c =
    c.reverse.ensures.items
    ∙ entries_done c.args.defers.now c.defers.deferred-index c.defers.all.items c.defers-test.false c.defers.invariant
