use Rattle.std.proofs.Common.{rules}
use Rattle.fiber_stacks.proofs.Levelled.{taken_in, defers_none}
use Rattle.fiber_stacks.proofs.levels.Levels.take_defer.Goals as goal

pub returns-in_err-index-clause-none : goal.returns-in_err-index-clause-none
returns-in_err-index-clause-none g c = search (rules, defers_none _ _ _ _ c.self.view_is)

pub returns-clause-some : goal.returns-clause-some
returns-clause-some g c =
    taken_in _ _ _ _ _ _ _ _ c.self.view_is c.self.invariant.defers c.self.invariant.noted c.in_ok-index.ensures.some
    c.in_ok-index.ensures.there c.add.ensures.lists
