use Rattle.verse_top_laws.proofs.Statuses.{built_ends}
use Rattle.verse_top_laws.proofs.built_is_never_stuck.Goals as goal

pub returns : goal.returns
returns c = built_ends c.accepted_items_are_never_stuck.ensures c.answered_once.ensures c.exec_runs_what_is_built.ensures
