use Rattle.run_save_reads.proofs.Runs.{read_run_fits}
use Rattle.run_save_reads.proofs.read_run_fits.Goals as goal

pub returns : goal.returns
returns c = read_run_fits
