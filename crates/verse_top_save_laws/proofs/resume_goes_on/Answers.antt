use Rattle.verse_top_save_laws.proofs.OneRun.{goes_on}
use Rattle.verse_top_save_laws.proofs.resume_goes_on.Goals as goal

pub returns : goal.returns
returns c = goes_on c.saved_behind_trace.ensures c.chain_is_the_run.ensures c.inputs_fit.ensures
