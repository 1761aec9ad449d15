use Rattle.std.proofs.Common.{sym}
use Rattle.vm_complete.proofs.Runs.{eqn_yes, eqn_no}
use Rattle.vm_complete.proofs.arms.are_same.Goals as goal

pub returns-then-a-b : goal.returns-then-a-b
returns-then-a-b c = sym (eqn_yes c.args.a c.args.b c.if-a-b.true)

pub returns : goal.returns
returns c = sym (eqn_no c.args.a c.args.b c.if-a-b.false)
