use Rattle.vm_running.specs.Doings.{pushes}
use Rattle.vm_running.proofs.Steps.{ok_by, local_leads}
use Rattle.vm_exec_values.proofs.Shapes.{pushed_as}
use Rattle.vm_exec_values.proofs.moves.get.Goals as goal

pub returns : goal.returns
returns g c code = ok_by _ _ (local_leads pushes _ _ _ c.requires.ready c.in-Some.ensures.some)
    (pushed_as _ _ _ _ _ c.in_ok-copy.ensures c.push_on.ensures)
