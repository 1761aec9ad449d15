use Rattle.verse_rules_walk.proofs.Order.{items_alone, numbers_in_row, numbers_rise}
use Rattle.verse_rules_walk.proofs.laws.nodes_in_order.Goals as goal

pub returns-clause-nodes : goal.returns-clause-nodes
returns-clause-nodes c = items_alone

pub returns-clause-row : goal.returns-clause-row
returns-clause-row c = numbers_in_row

pub returns-clause-rise : goal.returns-clause-rise
returns-clause-rise c = numbers_rise
