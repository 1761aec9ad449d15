use Rattle.verse_accept_laws.proofs.Whole.{followed}
use Rattle.verse_accept_laws.proofs.accepted_can_be_followed.Goals as goal

pub returns : goal.returns
returns c =
    followed c.accepted_nodes_fit.ensures c.accepted_nodes_stand.ensures c.numbers_stand.ensures c.tables_stand.ensures
    c.main_stands.ensures
    c.size_fits.ensures
