use Rattle.verse_accept_tables.proofs.Whole.{main_stands}
use Rattle.verse_accept_tables.proofs.main_stands.Goals as goal

pub returns : goal.returns
returns c = main_stands
