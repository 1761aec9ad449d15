use Rattle.std.proofs.Common.{◌≡◌, ◌≤◌, ◌-◌, length, slice_get, Some, None, ap, arith, rules}
use Rattle.fiber_stacks.proofs.Layered.{size_in, count_in, count_none}
use Rattle.fiber_stacks.proofs.layers.Layers.count.Goals as goal

pub overflow_sub-len : goal.overflow_sub-len
overflow_sub-len g c =
    let size : length c.args.self.now.lists ≡ length c.self.inside.bases.items = size_in _ _ _ (ap (λ l. l.lists) c.self.view_is) in
    let few : c.args.lists ≤ length c.args.self.now.lists = c.requires in
    let there : c.len.result ≡ length c.self.inside.bases.items = search rules in
    omega (arith, size, few, there)

pub overflow_sub-result : goal.overflow_sub-result
overflow_sub-result g c =
    let there : slice_get c.self.inside.bases.items (length c.self.inside.bases.items - c.args.lists) ≡ Some c.in-Some.base =
    search rules in
    let low = (count_in _ _ _ _ _ c.self.invariant (ap (λ l. l.lists) c.self.view_is) c.requires there).0 in
    search (rules, low)

pub returns-in-Some-clause-all : goal.returns-in-Some-clause-all
returns-in-Some-clause-all g c =
    let there : slice_get c.self.inside.bases.items (length c.self.inside.bases.items - c.args.lists) ≡ Some c.in-Some.base =
    search rules in
    let sum = (count_in _ _ _ _ _ c.self.invariant (ap (λ l. l.lists) c.self.view_is) c.requires there).1 in
    rw sum (search rules)

pub returns-in-None-clause-all : goal.returns-in-None-clause-all
returns-in-None-clause-all g c =
    let there : slice_get c.self.inside.bases.items (length c.self.inside.bases.items - c.args.lists) ≡ None = search rules in
    count_none _ _ _ (size_in _ _ _ (ap (λ l. l.lists) c.self.view_is)) c.requires there
