use Rattle.lower_sound.proofs.Whole.{fine_arms_stand}
use Rattle.lower_sound.proofs.fine_arms_stand.Goals as goal

pub returns : goal.returns
returns c = fine_arms_stand
