use Rattle.fiber.proofs.Anywhere.{some, few, place_in}
use Rattle.fiber.proofs.fibers.Fiber.frame_place.Goals as goal

pub place_at-requires-clause-some : goal.place_at-requires-clause-some
place_at-requires-clause-some c = some _ _ _ _ _ c.self.view_is c.requires c.from.ensures

pub place_at-requires-clause-few : goal.place_at-requires-clause-few
place_at-requires-clause-few c = few _ _ _ _ _ c.self.view_is c.requires c.from.ensures

pub returns : goal.returns
returns c = place_in _ _ _ _ _ c.self.view_is c.requires c.from.ensures _ c.place_at.ensures
