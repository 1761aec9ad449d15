use Rattle.std.proofs.Common.{sym, ap, subst, ◌∙◌}
use Rattle.std.proofs.lemmas.Result.{IfOk-weaker}
use Rattle.verse_value.specs.View.{val_of}
use Rattle.verse_value.specs.declared.values.Value.{Value}
use Rattle.vm_running.specs.Runners.{view_of}
use Rattle.vm_run.specs.Reaching.{CanBegin}
use Rattle.vm_run.proofs.Standing.{can_begin, can_turn, it_began, turned, still_ended}
use Rattle.vm_run.proofs.machines.Vm.advance.Goals as goal

pub begin-requires-clause-can : goal.begin-requires-clause-can
begin-requires-clause-can g c =
    let m = c.args.self.now in
    subst (λ (v : Value). CanBegin g.W.Waits.pending c.args.code.now (val_of v) m.bounds.steps (view_of g.H.Heap.state m.run) m.tasks)
    (sym c.replace-inputs.ensures.value)
    (can_begin g.H.Heap.state g.W.Waits.pending c.args.code.now c.runs_hold.ensures c.requires.valid m c.requires.belongs c.in-Unbegun.is)

pub returns-in-Unbegun-clause-reached : goal.returns-in-Unbegun-clause-reached
returns-in-Unbegun-clause-reached g c origin steps until k past at =
    let m = c.args.self.now in
    it_began g.H.Heap.state g.W.Waits.pending c.args.code.now c.begin.result origin steps until k past m
    (record m { run = c.begin.new.run; tasks = c.begin.new.tasks; inputs = c.replace-inputs.new.dest }) at c.in-Unbegun.is
    (λ ns e. c.begin.ensures ns (ap val_of c.replace-inputs.ensures.value ∙ e))

pub go-requires-clause-can : goal.go-requires-clause-can
go-requires-clause-can g c = can_turn g.H.Heap.state g.W.Waits.pending c.args.code.now c.runs_hold.ensures c.requires.valid
    c.args.self.now c.requires.belongs c.in-Between.is

pub returns-in-Between-clause-reached : goal.returns-in-Between-clause-reached
returns-in-Between-clause-reached g c origin steps until k past at =
    IfOk-weaker c.go.result _ _
    (λ p h. turned g.H.Heap.state g.W.Waits.pending c.args.code.now c.runs_hold.ensures c.requires.valid origin steps
    until k past c.args.self.now (record c.args.self.now { run = c.go.new.run; tasks = c.go.new.tasks }) p at c.in-Between.is h)
    c.go.ensures

pub returns-in-Ended-clause-reached : goal.returns-in-Ended-clause-reached
returns-in-Ended-clause-reached g c origin steps until k past at =
    still_ended g.H.Heap.state g.W.Waits.pending c.args.code.now c.runs_hold.ensures c.requires.valid origin steps until k past
    c.args.self.now _ at c.in-Ended.is
