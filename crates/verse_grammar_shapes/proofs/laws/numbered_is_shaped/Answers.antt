use Rattle.verse_grammar_shapes.proofs.Numbered.{numbering_keeps}
use Rattle.verse_grammar_shapes.proofs.laws.numbered_is_shaped.Goals as goal

pub returns : goal.returns
returns c = numbering_keeps
