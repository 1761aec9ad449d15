use Rattle.run_save_chain.proofs.Chains.{chain_is_held}
use Rattle.run_save_chain.proofs.chain_is_held.Goals as goal

pub returns : goal.returns
returns c = chain_is_held c.held_spelled.ensures c.stopped_run_is_held.ensures
    c.held_goes_on.ensures c.runs_end_from.ensures c.stays_over_from.ensures
