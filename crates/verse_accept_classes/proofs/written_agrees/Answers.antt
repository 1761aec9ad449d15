use Rattle.verse_accept_classes.proofs.Tables.{all_written_agrees}
use Rattle.verse_accept_classes.proofs.written_agrees.Goals as goal

pub returns : goal.returns
returns c = all_written_agrees
