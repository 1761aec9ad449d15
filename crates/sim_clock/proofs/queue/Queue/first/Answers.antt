use Rattle.std.proofs.Common.{sym}
use Rattle.sim_clock.proofs.Edits.{least_front}
use Rattle.sim_clock.proofs.queue.Queue.first.Goals as goal

pub returns-clause-least : goal.returns-clause-least
returns-clause-least c =
    let front = c.in_ok-first.ensures.item.3 in
    rw (← c.self.view_is) (least_front _ _ c.self.invariant front.0 (sym (front.1 (0, 0))))
