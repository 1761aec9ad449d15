use Rattle.verse_code_machine_parents.proofs.Running.{operation_roots}
use Rattle.verse_code_machine_parents.proofs.operation_roots.Goals as goal

pub returns : goal.returns
returns c = operation_roots
