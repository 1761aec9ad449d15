use Rattle.vm_run.proofs.Draining.{turned_to, took_part}
use Rattle.vm_run.proofs.Writing.{drained_belongs, drained_kept, still_belongs, turned_bare}
use Rattle.vm_run.proofs.machines.Vm.turn_to.Goals as goal

pub drain-requires : goal.drain-requires
drain-requires g c = record {
  bare =
      turned_bare g.H.Heap.state g.W.Waits.pending c.args.code.now c.args.self.now c.turn.new.self c.in_ok-ending.ending
      c.requires.belongs c.in_ok-ending.ensures.still c.in_ok-ending.ensures.turned;
}

pub returns-in_err-drain-clause-part : goal.returns-in_err-drain-clause-part
returns-in_err-drain-clause-part g c origin steps until k past at failed =
    took_part g.H.Heap.state g.W.Waits.pending c.args.code.now origin steps until k past c.turn.new.self c.in_ok-ending.ending _ _
    c.in_err-drain.ensures.part (c.in_ok-ending.ensures.turned origin steps until k past at)

pub returns-in_err-drain-clause-belongs : goal.returns-in_err-drain-clause-belongs
returns-in_err-drain-clause-belongs g c =
    still_belongs g.H.Heap.state g.W.Waits.pending c.args.code.now c.turn.new.self c.drain.new.trace c.in_ok-ending.ensures.belongs
    c.in_err-drain.ensures.kept

pub returns-clause-turned : goal.returns-clause-turned
returns-clause-turned g c origin steps until k past at =
    turned_to g.H.Heap.state g.W.Waits.pending c.args.code.now origin steps until k past c.turn.new.self c.in_ok-ending.ending
    c.drain.new.trace _ _ c.in_ok-drain.ensures.drained c.in_ok-drain.ensures.written
    (c.in_ok-ending.ensures.turned origin steps until k past at)

pub returns-clause-kept : goal.returns-clause-kept
returns-clause-kept g c =
    drained_kept g.H.Heap.state g.W.Waits.pending c.args.code.now c.args.self.now c.turn.new.self c.in_ok-ending.ending c.drain.new.trace
    c.requires.belongs c.in_ok-ending.ensures.still c.in_ok-ending.ensures.turned c.in_ok-drain.ensures.drained

pub returns-clause-belongs : goal.returns-clause-belongs
returns-clause-belongs g c =
    drained_belongs g.H.Heap.state g.W.Waits.pending c.args.code.now c.args.self.now c.turn.new.self c.in_ok-ending.ending c.drain.new.trace
    c.requires.belongs c.in_ok-ending.ensures.still c.in_ok-ending.ensures.turned c.in_ok-drain.ensures.drained
