use Rattle.run_save_chain.proofs.Chains.{chain_keeps_steps}
use Rattle.run_save_chain.proofs.chain_keeps_steps.Goals as goal

pub returns : goal.returns
returns c = chain_keeps_steps c.chain_is_held.ensures
