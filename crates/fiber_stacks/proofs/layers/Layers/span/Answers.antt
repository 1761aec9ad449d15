use Rattle.std.proofs.Common.{◌≡◌, ◌≤◌, ◌-◌, length, take, refl, ap, arith, rules}
use Rattle.fiber_stacks.specs.Layers.{total}
use Rattle.fiber_stacks.proofs.Layered.{span_in, span_within}
use Rattle.fiber_stacks.proofs.layers.Layers.span.Goals as goal

pub overflow_sub-end : goal.overflow_sub-end
overflow_sub-end g c =
    let all = span_within _ _ _ _ _ c.self.invariant (ap (λ l. l.lists) c.self.view_is) c.requires.order in
    let len : c.len.result ≡ length c.self.inside.items.items = search rules in
    omega (arith, all.0, all.1, len, c.count.ensures.all)

pub overflow_sub-start : goal.overflow_sub-start
overflow_sub-start g c =
    let all = span_within _ _ _ _ _ c.self.invariant (ap (λ l. l.lists) c.self.view_is) c.requires.order in
    let len : c.len-2.result ≡ length c.self.inside.items.items = search rules in
    omega (arith, all.0, all.1, len, c.count-2.ensures.all)

pub part-requires-clause-order : goal.part-requires-clause-order
part-requires-clause-order g c =
    let all = span_within _ _ _ _ _ c.self.invariant (ap (λ l. l.lists) c.self.view_is) c.requires.order in
    let len : c.len.result ≡ length c.self.inside.items.items = search rules in
    let len2 : c.len-2.result ≡ length c.self.inside.items.items = search rules in
    omega (arith, all.0, all.1, len, len2, c.count.ensures.all, c.count-2.ensures.all)

pub returns : goal.returns
returns g c =
    let all = span_within _ _ _ _ _ c.self.invariant (ap (λ l. l.lists) c.self.view_is) c.requires.order in
    let len : c.len.result ≡ length c.self.inside.items.items = search rules in
    let len2 : c.len-2.result ≡ length c.self.inside.items.items = search rules in
    let end : c.len.result - c.count.result ≡ length c.self.inside.items.items - total (take c.args.over c.args.self.now.lists) =
    rw (len, c.count.ensures.all) refl in
    let start : c.len-2.result - c.count-2.result ≡ length c.self.inside.items.items - total (take c.args.through c.args.self.now.lists) =
    rw (len2, c.count-2.ensures.all) refl in
    let order : c.len-2.result - c.count-2.result ≤ c.len.result - c.count.result =
    omega (arith, all.0, all.1, len, len2, c.count.ensures.all, c.count-2.ensures.all) in
    search (
      rules,
      span_in _ _ _ _ _ _ _ c.self.invariant (ap (λ l. l.lists) c.self.view_is) c.requires.order c.requires.within start end
          order,
    )
