use Rattle.vm_run.proofs.Origins.{runs_hold}
use Rattle.vm_run.proofs.laws.runs_hold.Goals as goal

pub returns : goal.returns
returns c =
    runs_hold c.runs_end.ensures c.stays_over.ensures c.run_belongs.ensures c.runs_end_so.ensures c.runs_end_from.ensures
    c.stays_over_from.ensures c.run_belongs_from.ensures c.runs_end_so_from.ensures
