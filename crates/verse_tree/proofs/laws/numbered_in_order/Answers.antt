use Rattle.verse_tree.proofs.Order.{items_in_order, program_in_order}
use Rattle.verse_tree.proofs.laws.numbered_in_order.Goals as goal

pub returns-clause-items : goal.returns-clause-items
returns-clause-items c = items_in_order

pub returns-clause-program : goal.returns-clause-program
returns-clause-program c = program_in_order
