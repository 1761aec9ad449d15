use Rattle.verse_top_exec.proofs.Executions.{once}
use Rattle.verse_top_exec.proofs.executing.executed_once.Goals as goal

pub returns : goal.returns
returns c = once
