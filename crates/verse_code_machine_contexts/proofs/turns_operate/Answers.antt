use Rattle.verse_code_machine_contexts.proofs.Runs.{turns_operate}
use Rattle.verse_code_machine_contexts.proofs.turns_operate.Goals as goal

pub returns : goal.returns
returns c = turns_operate
