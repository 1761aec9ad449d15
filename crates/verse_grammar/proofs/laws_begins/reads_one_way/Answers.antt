use Rattle.verse_grammar.proofs.Local.{reads_one_way}
use Rattle.verse_grammar.proofs.laws_begins.reads_one_way.Goals as goal

pub returns : goal.returns
returns c = reads_one_way
