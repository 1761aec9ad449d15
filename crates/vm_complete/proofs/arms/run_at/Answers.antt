use Rattle.std.proofs.Common.{sym, ◌∙◌, arith}
use Rattle.vm_complete.proofs.Runs.{found_at, passed_at}
use Rattle.vm_complete.proofs.arms.run_at.Goals as goal

pub returns-then-is_number : goal.returns-then-is_number
returns-then-is_number c =
    sym (found_at c.args.number c.arms.at c.arms.arm-index c.args.arms.now c.arm-item.result c.is_number.result c.arms-test.true
    c.arm-item.is c.is_number.ensures c.if-is_number.true) ∙ c.arms.invariant.1

pub arms-preserved : goal.arms-preserved
arms-preserved c = (
  omega (arith, c.arms.invariant.0),
  sym (passed_at c.args.number c.arms.at c.arms.arm-index c.args.arms.now c.arm-item.result c.is_number.result c.arms-test.true
      c.arm-item.is c.is_number.ensures c.if-is_number.false) ∙ c.arms.invariant.1,
)
