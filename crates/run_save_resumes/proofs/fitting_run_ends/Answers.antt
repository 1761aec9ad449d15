use Rattle.run_save_resumes.proofs.Resumed.{fitting_run_ends}
use Rattle.run_save_resumes.proofs.fitting_run_ends.Goals as goal

pub returns : goal.returns
returns c = fitting_run_ends c.runs_end_from.ensures
