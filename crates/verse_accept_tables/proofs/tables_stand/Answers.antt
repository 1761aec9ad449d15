use Rattle.verse_accept_tables.proofs.Whole.{tables_stand}
use Rattle.verse_accept_tables.proofs.tables_stand.Goals as goal

pub returns : goal.returns
returns c = tables_stand
