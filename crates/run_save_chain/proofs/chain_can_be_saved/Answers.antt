use Rattle.run_save_chain.proofs.Fitting.{chain_can_be_saved}
use Rattle.run_save_chain.proofs.chain_can_be_saved.Goals as goal

pub returns : goal.returns
returns c = chain_can_be_saved c.chain_is_held.ensures c.chain_fits.ensures c.fitting_is_apart.ensures c.savable_goes_on.ensures
