use Rattle.vm_scheduler.proofs.Ends.{last_first}
use Rattle.vm_scheduler.proofs.ups.push.Goals as goal

pub returns : goal.returns
returns c = last_first c.args.ups.now.items _ _ c.in_ok-push.ensures.items
