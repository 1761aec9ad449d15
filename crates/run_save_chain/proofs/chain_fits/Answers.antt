use Rattle.run_save_chain.proofs.Fitting.{chain_fits}
use Rattle.run_save_chain.proofs.chain_fits.Goals as goal

pub returns : goal.returns
returns c = chain_fits c.chain_is_held.ensures c.saved_states_fit.ensures
    c.resumed_states_fit.ensures c.fits_is_resumable.ensures c.run_belongs_from.ensures
