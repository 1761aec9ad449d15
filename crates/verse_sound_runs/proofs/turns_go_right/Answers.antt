use Rattle.verse_sound_runs.proofs.Runs.{after_right}
use Rattle.verse_sound_runs.proofs.turns_go_right.Goals as goal

pub returns : goal.returns
returns c p h = after_right p h.found (λ g. c.failed_context_leaves.ensures p g) (λ g. c.contexts_undo.ensures p g)
    (λ g. c.cancelling_leaves.ensures p g) h.fine
