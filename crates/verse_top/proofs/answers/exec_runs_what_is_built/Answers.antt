use Rattle.verse_top.proofs.AnswerLaws.{exec_runs}
use Rattle.verse_top.proofs.answers.exec_runs_what_is_built.Goals as goal

pub returns : goal.returns
returns c = exec_runs
