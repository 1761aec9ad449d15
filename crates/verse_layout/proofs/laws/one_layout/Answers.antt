use Rattle.verse_layout.proofs.Answers.{one_layout}
use Rattle.verse_layout.proofs.laws.one_layout.Goals as goal

pub returns : goal.returns
returns c = one_layout
