use Rattle.verse_top.proofs.EndLaws.{ends_so}
use Rattle.verse_top.proofs.answers.each_ends_so.Goals as goal

pub returns : goal.returns
returns c = ends_so
