use Rattle.std.proofs.Common.{ap, sym, ◌∙◌, reverse}
use Rattle.fiber_stacks.proofs.Layered.{with_in}
use Rattle.fiber_stacks.proofs.layers.Layers.put.Goals as goal

pub returns-clause-lists : goal.returns-clause-lists
returns-clause-lists g c =
    let bases = ap reverse (sym c.deref.ensures.value) ∙ c.in-Some.ensures.some.1 in
    rw c.replace.ensures.after (with_in _ _ _ _ _ _ _ (ap (λ l. l.lists) c.self.view_is) bases)
