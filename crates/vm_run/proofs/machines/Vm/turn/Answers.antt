use Rattle.std.proofs.Common.{subst, sym}
use Rattle.vm_run.specs.Turning.{Turned}
use Rattle.vm_run.proofs.Standing.{turned_by, belongs_on}
use Rattle.vm_run.proofs.machines.Vm.turn.Goals as goal

pub returns-in-Ok-clause-turned : goal.returns-in-Ok-clause-turned
returns-in-Ok-clause-turned g c origin steps until k past at =
    let m = record c.advance.new.self { phase = c.in-Ok.phase } in
    subst (λ o. Turned g.H.Heap.state g.W.Waits.pending c.args.code.now origin steps until k past o m) (sym c.ending_of.ensures)
    (turned_by g.H.Heap.state g.W.Waits.pending c.args.code.now c.runs_hold.ensures c.requires.valid origin steps until k
    past c.args.self.now m c.advance.ensures.bounds at (c.in-Ok.ensures.reached origin steps until k past at))

pub returns-in-Ok-clause-belongs : goal.returns-in-Ok-clause-belongs
returns-in-Ok-clause-belongs g c =
    let m = record c.advance.new.self { phase = c.in-Ok.phase } in
    belongs_on g.H.Heap.state g.W.Waits.pending c.args.code.now _ c.args.self.now m c.requires.belongs c.in-Ok.ensures.still
    (λ origin steps until k past at. turned_by g.H.Heap.state g.W.Waits.pending c.args.code.now c.runs_hold.ensures
    c.requires.valid origin steps until k past c.args.self.now m c.advance.ensures.bounds at
    (c.in-Ok.ensures.reached origin steps until k past at))
