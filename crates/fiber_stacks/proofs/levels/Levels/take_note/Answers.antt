use Rattle.fiber_stacks.proofs.Levelled.{noted_case, noted_there, noted_none}
use Rattle.fiber_stacks.proofs.levels.Levels.take_note.Goals as goal

pub returns-clause-some : goal.returns-clause-some
returns-clause-some g c = noted_case _ _ _ _ _ _ c.self.view_is c.self.invariant.noted c.pop.ensures.some c.pop.ensures.there

pub returns-clause-there : goal.returns-clause-there
returns-clause-there g c = noted_there _ _ c.self.inside.defers.lists _ _ c.self.invariant.noted c.pop.ensures.some c.pop.ensures.there

pub returns-clause-none : goal.returns-clause-none
returns-clause-none g c = noted_none _ _ _ _ _ c.self.view_is c.pop.ensures.none
