use Rattle.vm_run.proofs.Running.{Runs}
use Rattle.vm_run.proofs.machines.Vm.run.Given as goal

abbrev pub invariant-turns : goal.invariant-turns
invariant-turns g l = Runs g.H.Heap.state g.W.Waits.pending l.code l._turn l.fn.self l.self
