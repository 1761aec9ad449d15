use Rattle.vm_exec_calls.proofs.Choosing.{chosen_yes, chosen_no}
use Rattle.vm_exec_calls.proofs.methods.chosen.Goals as goal

pub returns-then-func-count-clause-chosen : goal.returns-then-func-count-clause-chosen
returns-then-func-count-clause-chosen g c s e =
    chosen_yes c.args.code.now c.args.method c.args.count c.args.values.now c.in_ok-object.object.now c.in_ok-class.class c.in_ok-func.func
    s c.in_ok-object.ensures.value (c.in_ok-class.ensures.class s e) c.in_ok-func.ensures.func c.if-func-count.true

pub returns-else-func-count-clause-chosen : goal.returns-else-func-count-clause-chosen
returns-else-func-count-clause-chosen g c s e =
    chosen_no c.args.code.now c.args.method c.args.count c.args.values.now c.in_ok-object.object.now c.in_ok-class.class c.in_ok-func.func s
    c.in_ok-object.ensures.value (c.in_ok-class.ensures.class s e) c.in_ok-func.ensures.func c.if-func-count.false
