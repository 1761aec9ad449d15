use Rattle.std.proofs.Common.{◌≡◌, Err, Some, subst, rules}
use Rattle.vm_ops.specs.declared.faults.OpFault.TheVariants as fault
use Rattle.verse_value.specs.View.{val_of}
use Rattle.vm_ops.specs.Answers.{IsAnswerOrMemory}
use Rattle.vm_running.specs.Doings.{place_in}
use Rattle.vm_running.proofs.Steps.{comes_by}
use Rattle.vm_exec_values.proofs.Shapes.{settles_gives, settles_error}
use Rattle.vm_exec_values.proofs.growing.settle.Goals as goal

pub returns-in-Ok : goal.returns-in-Ok
returns-in-Ok g c a w is cannot =
    comes_by (settles_gives (place_in c.args.code.now (Some c.args.target.place)) c.args.target.local a
    (val_of c.in-Ok.value) w _ _ c.requires.ready (subst (IsAnswerOrMemory a) c.in-Ok.is is) c.requires.there c.put_local.ensures.new)
    c.go_on.ensures

pub returns-in-Err-Fault : goal.returns-in-Err-Fault
returns-in-Err-Fault g c a w is cannot =
    let e : c.args.outcome ≡ Err (fault.Fault c.in-Err-Fault.kind) = search rules in
    settles_error (place_in c.args.code.now (Some c.args.target.place)) c.args.target.local a c.in-Err-Fault.kind w _ _ _
    (subst (IsAnswerOrMemory a) e is) c.raise.ensures
