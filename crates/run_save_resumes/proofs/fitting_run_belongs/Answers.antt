use Rattle.run_save_resumes.proofs.Resumed.{fitting_run_belongs}
use Rattle.run_save_resumes.proofs.fitting_run_belongs.Goals as goal

pub returns : goal.returns
returns c = fitting_run_belongs c.run_belongs_from.ensures
