use Rattle.std.proofs.lemmas.Result.{IfOk-weaker}
use Rattle.run_save_shots.specs.View.{shot_of}
use Rattle.vm_run.proofs.Stopped.{can_be_shot, is_shot, same_at, same_belongs}
use Rattle.vm_run.proofs.machines.Vm.stopped_shot.Goals as goal

pub shot-requires : goal.shot-requires
shot-requires g c = can_be_shot g.H.Heap.state g.W.Waits.pending c.args.code.now c.runs_hold.ensures c.requires.valid c.args.self.now
    c.requires.stopped c.requires.belongs

pub returns-clause-kept : goal.returns-clause-kept
returns-clause-kept g c origin steps until k past can at =
    IfOk-weaker c.shot.result _ _ (λ x each. is_shot g.H.Heap.state g.W.Waits.pending c.args.code.now c.runs_hold.ensures c.requires.valid
    c.args.self.now c.requires.stopped c.inputs_fit.ensures c.stopped_run_is_shown.ensures c.resumed_run_is_shown.ensures
    c.texts_are_bytes.ensures (shot_of x) each origin steps until k past can at) c.shot.ensures.spells

pub returns-clause-at : goal.returns-clause-at
returns-clause-at g c origin steps until k past at =
    same_at g.H.Heap.state g.W.Waits.pending c.args.self.now c.shot.new.run c.shot.ensures.same c.args.code.now origin steps until k past at

pub returns-clause-belongs : goal.returns-clause-belongs
returns-clause-belongs g c =
    same_belongs g.H.Heap.state g.W.Waits.pending c.args.self.now c.shot.new.run c.shot.ensures.same c.args.code.now c.requires.belongs
