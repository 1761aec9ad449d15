use Rattle.fiber_stacks.proofs.Levelled.{deferred_in}
use Rattle.fiber_stacks.proofs.levels.Levels.defer.Goals as goal

pub returns-clause-ok : goal.returns-clause-ok
returns-clause-ok g c = rw c.in_ok-reserve.ensures.lists
    (deferred_in _ _ _ _ _ _ c.self.view_is c.self.invariant.defers c.in_ok-push.ensures.ok)
