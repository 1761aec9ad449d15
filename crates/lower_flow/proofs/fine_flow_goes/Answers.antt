use Rattle.lower_flow.proofs.Whole.{fine_flow_goes}
use Rattle.lower_flow.proofs.fine_flow_goes.Goals as goal

pub returns : goal.returns
returns c = fine_flow_goes
