use Rattle.verse_sound_effects.proofs.Calls.{calls_promised}
use Rattle.verse_sound_effects.proofs.calls_are_promised.Goals as goal

pub returns : goal.returns
returns c =
    calls_promised c.failed_context_leaves.ensures c.contexts_undo.ensures c.cancelling_leaves.ensures
    c.contexts_change_nothing.ensures
