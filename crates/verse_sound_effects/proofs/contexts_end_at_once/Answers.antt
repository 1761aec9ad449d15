use Rattle.verse_sound_effects.proofs.Contexts.{contexts_end}
use Rattle.verse_sound_effects.proofs.contexts_end_at_once.Goals as goal

pub returns : goal.returns
returns c = contexts_end c.failed_context_leaves.ensures c.contexts_undo.ensures c.cancelling_leaves.ensures
