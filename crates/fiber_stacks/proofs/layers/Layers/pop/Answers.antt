use Rattle.std.proofs.Common.{◌<◌, length, ap, rules}
use Rattle.fiber_stacks.specs.Layers.{top}
use Rattle.fiber_stacks.proofs.Layered.{popped_in, some_in}
use Rattle.fiber_stacks.proofs.layers.Layers.pop.Goals as goal

pub take_last-requires : goal.take_last-requires
take_last-requires g c =
    let some : 0 < length (top c.args.self.now.lists) = search rules in
    some_in _ _ _ (ap (λ l. l.lists) c.self.view_is) some

pub invariant_of-self : goal.invariant_of-self
invariant_of-self g c =
    let some : 0 < length (top c.args.self.now.lists) = search rules in
    (popped_in _ _ _ _ _ c.self.invariant (ap (λ l. l.lists) c.self.view_is) some c.take_last.ensures.items).2

pub returns-clause-some : goal.returns-clause-some
returns-clause-some g c =
    let some : 0 < length (top c.args.self.now.lists) = search rules in
    (popped_in _ _ _ _ _ c.self.invariant (ap (λ l. l.lists) c.self.view_is) some c.take_last.ensures.items).0

pub returns-clause-there : goal.returns-clause-there
returns-clause-there g c =
    let some : 0 < length (top c.args.self.now.lists) = search rules in
    (popped_in _ _ _ _ _ c.self.invariant (ap (λ l. l.lists) c.self.view_is) some c.take_last.ensures.items).1
