use Rattle.run_save_premises.proofs.Inputs.{few_inputs_fit}
use Rattle.run_save_premises.proofs.inputs_fit.Goals as goal

pub returns : goal.returns
returns c = few_inputs_fit
