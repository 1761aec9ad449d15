use Rattle.verse_tree.proofs.Order.{items_kept}
use Rattle.verse_tree.proofs.laws.numbers_alone.Goals as goal

pub returns : goal.returns
returns c = items_kept
