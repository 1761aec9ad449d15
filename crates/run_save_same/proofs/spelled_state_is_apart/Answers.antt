use Rattle.run_save_same.proofs.Again.{spelled_state_is_apart}
use Rattle.run_save_same.proofs.spelled_state_is_apart.Goals as goal

pub returns : goal.returns
returns c = spelled_state_is_apart
