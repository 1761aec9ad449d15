use Rattle.verse_top_laws.proofs.Statuses.{load_ends}
use Rattle.verse_top_laws.proofs.load_is_never_stuck.Goals as goal

pub returns : goal.returns
returns c = load_ends c.accepted_items_are_never_stuck.ensures
