use Rattle.verse_top_laws.proofs.Statuses.{run_ends}
use Rattle.verse_top_laws.proofs.run_is_never_stuck.Goals as goal

pub returns : goal.returns
returns c = run_ends c.accepted_items_are_never_stuck.ensures
