use Rattle.verse_sound_runs.proofs.Promises.{calls_keep}
use Rattle.verse_sound_runs.proofs.calls_keep_promises.Goals as goal

pub returns : goal.returns
returns c = calls_keep c.failed_context_leaves.ensures c.contexts_undo.ensures c.cancelling_leaves.ensures
