use Rattle.vm_shot_laws.specs.Laws.{itself}
use Rattle.vm_shot_laws.proofs.Walking.{tree_walked}
use Rattle.vm_shot_laws.proofs.tree_is_walked.Goals as goal

pub returns : goal.returns
returns c = λ all tss rests tree apart. tree_walked itself all tss rests tree apart
