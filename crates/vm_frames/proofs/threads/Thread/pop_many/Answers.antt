use Rattle.vm_frames.proofs.Popped.{still_some, one_more, too_few}
use Rattle.vm_frames.proofs.threads.Thread.pop_many.Goals as goal

pub returns-in_default-clause-none : goal.returns-in_default-clause-none
returns-in_default-clause-none c = too_few c.args.count c.operands._i _ _ _ c.operands-test.true c.in_default.ensures.none
    c.operands.invariant.1

pub operands-preserved : goal.operands-preserved
operands-preserved c = (
  still_some _ _ _ c.in-Some.ensures.some,
  rw c.in_ok-push.ensures.items (one_more c.args.count c.operands._i c.operands.taken.items c.in-Some.value _ _ _ c.operands-test.true
      c.in-Some.ensures.some c.operands.invariant.1),
)
