use Rattle.verse_top.proofs.AnswerLaws.{once}
use Rattle.verse_top.proofs.answers.answered_once.Goals as goal

pub returns : goal.returns
returns c = once
