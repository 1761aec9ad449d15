use Rattle.verse_accept_tables.proofs.Whole.{numbers_stand}
use Rattle.verse_accept_tables.proofs.numbers_stand.Goals as goal

pub returns : goal.returns
returns c = numbers_stand
