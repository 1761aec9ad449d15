use Rattle.std.proofs.Common.{reverse, sym, ap, ◌∙◌}
use Rattle.fiber_stacks.proofs.Headed.{place_in}
use Rattle.fiber_stacks.proofs.heads.Heads.place.Goals as goal

pub returns : goal.returns
returns g c = place_in c.self.inside.places.items _ _ c.self.inside.locals.lists c.self.inside.bounds.lists _ c.self.view_is
    (ap reverse (sym c.deref.ensures.value) ∙ c.in-Some.ensures.some.1)
