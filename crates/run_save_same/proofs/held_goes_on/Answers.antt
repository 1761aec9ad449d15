use Rattle.run_save_same.proofs.Stopped.{held_goes_on}
use Rattle.run_save_same.proofs.held_goes_on.Goals as goal

pub returns : goal.returns
returns c = held_goes_on c.savable_goes_on.ensures c.orderly_goes_on.ensures c.births_go_on.ensures c.arms_go_on.ensures
