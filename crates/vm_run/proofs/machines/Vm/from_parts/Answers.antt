use Rattle.std.proofs.Common.{refl}
use Rattle.vm_run.proofs.Standing.{resumes}
use Rattle.vm_run.proofs.machines.Vm.from_parts.Goals as goal

pub returns : goal.returns
returns g c s trees past rested can =
    resumes g.H.Heap.state g.W.Waits.pending c.args.code.now c.args.bounds.steps c.args.bounds.until s trees past _ refl refl refl
    c.requires.steps c.requires.until can rested
