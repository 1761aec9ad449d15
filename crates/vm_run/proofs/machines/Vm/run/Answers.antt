use Rattle.std.proofs.Common.{◌≡◌, subst, arith}
use Rattle.vm_run.proofs.Running.{Runs, TurnsInto, none_yet, one_more, never_so_many, ran}
use Rattle.vm_run.proofs.machines.Vm.run.Goals as goal

pub turns-init : goal.turns-init
turns-init g c = none_yet g.H.Heap.state g.W.Waits.pending c.args.code.now c.args.self.now c.requires.belongs

pub returns-in-Some-clause-ran : goal.returns-in-Some-clause-ran
returns-in-Some-clause-ran g c origin steps until k past at =
    ran g.H.Heap.state g.W.Waits.pending c.args.code.now c.runs_hold.ensures c.requires.valid c.turns._turn
    c.args.self.now c.turns.self c.turn.new.self c.in-Some.ending c.turns.invariant
    (subst (λ o. TurnsInto g.H.Heap.state g.W.Waits.pending c.args.code.now c.turns.self o c.turn.new.self) c.in-Some.is
    c.in_ok-ending.ensures.turned) origin steps until k past at

pub turns-preserved : goal.turns-preserved
turns-preserved g c =
    one_more g.H.Heap.state g.W.Waits.pending c.args.code.now c.turns._turn c.args.self.now c.turns.self c.turn.new.self c.turns.invariant
    (subst (λ o. TurnsInto g.H.Heap.state g.W.Waits.pending c.args.code.now c.turns.self o c.turn.new.self) c.in_default.is
    c.in_ok-ending.ensures.turned) c.in_ok-ending.ensures.belongs c.in_ok-ending.ensures.still

pub unreachable-requires : goal.unreachable-requires
unreachable-requires g c =
    let all : c.turns._turn ≡ 100000002 = omega (arith, c.turns-test.false, c.turns.auto._turn-end) in
    never_so_many g.H.Heap.state g.W.Waits.pending c.args.code.now c.runs_hold.ensures c.requires.valid c.args.self.now
    c.turns.self c.requires.belongs
    (subst (λ n. Runs g.H.Heap.state g.W.Waits.pending c.args.code.now n c.args.self.now c.turns.self) all c.turns.invariant)
