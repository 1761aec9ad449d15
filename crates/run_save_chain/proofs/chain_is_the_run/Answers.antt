use Rattle.run_save_chain.proofs.Chains.{chain_is_the_run}
use Rattle.run_save_chain.proofs.chain_is_the_run.Goals as goal

pub returns : goal.returns
returns c = chain_is_the_run c.chain_is_held.ensures c.kept_run_goes_on.ensures
    c.held_run_goes_on.ensures c.runs_end_from.ensures c.stays_over_from.ensures
