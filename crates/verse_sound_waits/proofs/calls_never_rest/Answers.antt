use Rattle.verse_sound_waits.proofs.Calls.{calls_never_rest}
use Rattle.verse_sound_waits.proofs.calls_never_rest.Goals as goal

pub returns : goal.returns
returns c =
    calls_never_rest c.failed_context_leaves.ensures c.contexts_undo.ensures c.cancelling_leaves.ensures
    c.contexts_change_nothing.ensures
