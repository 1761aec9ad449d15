use Rattle.note_found.proofs.Whole.{agree}
use Rattle.note_found.proofs.tables_agree.Goals as goal

pub returns : goal.returns
returns c = agree c.nodes_in_order.ensures.nodes
