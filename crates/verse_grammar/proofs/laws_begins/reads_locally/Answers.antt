use Rattle.verse_grammar.proofs.Local.{reads_locally}
use Rattle.verse_grammar.proofs.laws_begins.reads_locally.Goals as goal

pub returns : goal.returns
returns c = reads_locally
