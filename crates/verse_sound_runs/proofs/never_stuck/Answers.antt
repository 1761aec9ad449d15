use Rattle.verse_sound_runs.proofs.Runs.{mean_sound}
use Rattle.verse_sound_runs.proofs.never_stuck.Goals as goal

pub returns : goal.returns
returns c p h =
    mean_sound p h.found (λ g. c.failed_context_leaves.ensures p g) (λ g. c.contexts_undo.ensures p g)
    (λ g. c.cancelling_leaves.ensures p g) h.fine (c.steps_counted.ensures p)
