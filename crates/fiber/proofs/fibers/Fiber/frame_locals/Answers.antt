use Rattle.fiber.proofs.Anywhere.{some, few, locals_in}
use Rattle.fiber.proofs.fibers.Fiber.frame_locals.Goals as goal

pub locals_at-requires-clause-some : goal.locals_at-requires-clause-some
locals_at-requires-clause-some c = some _ _ _ _ _ c.self.view_is c.requires c.from.ensures

pub locals_at-requires-clause-few : goal.locals_at-requires-clause-few
locals_at-requires-clause-few c = few _ _ _ _ _ c.self.view_is c.requires c.from.ensures

pub returns : goal.returns
returns c = locals_in _ _ _ _ _ c.self.view_is c.requires c.from.ensures _ c.locals_at.ensures
