use Rattle.run_save_chain.proofs.Fitting.{fitting_is_apart}
use Rattle.run_save_chain.proofs.fitting_is_apart.Goals as goal

pub returns : goal.returns
returns c = fitting_is_apart
