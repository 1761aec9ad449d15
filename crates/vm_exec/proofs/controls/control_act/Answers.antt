use Rattle.vm_exec.proofs.controls.control_act.Goals as goal

pub returns-in-Jump : goal.returns-in-Jump
returns-in-Jump g c = rw c.in-Jump.is c.go.ensures

pub returns-in-Same : goal.returns-in-Same
returns-in-Same g c = rw c.in-Same.is (c.same.ensures c.args.code.now)

pub returns-in-Again : goal.returns-in-Again
returns-in-Again g c = rw c.in-Again.is (c.again.ensures c.args.code.now)

pub returns-in-Each : goal.returns-in-Each
returns-in-Each g c = rw c.in-Each.is (c.each.ensures c.args.code.now)

pub returns-in-Range : goal.returns-in-Range
returns-in-Range g c = rw c.in-Range.is (c.range.ensures c.args.code.now)

pub returns-in-Leave : goal.returns-in-Leave
returns-in-Leave g c = rw c.in-Leave.is (c.leave.ensures c.args.code.now)
