use Rattle.verse_code_machine.proofs.BelongingRuns.{operation_keeps}
use Rattle.verse_code_machine.proofs.operation_keeps.Goals as goal

pub returns : goal.returns
returns c = operation_keeps
