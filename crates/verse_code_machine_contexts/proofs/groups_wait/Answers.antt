use Rattle.verse_code_machine_contexts.proofs.WaitRuns.{groups_wait}
use Rattle.verse_code_machine_contexts.proofs.groups_wait.Goals as goal

pub returns : goal.returns
returns c = groups_wait
