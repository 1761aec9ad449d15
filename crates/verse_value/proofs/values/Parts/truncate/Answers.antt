use Rattle.std.proofs.Common.{◌≡◌, List, length, drop, rules, arith, ap, subst, ◌∙◌}
use Rattle.verse_value.specs.declared.values.Value.{Value}
use Rattle.verse_value.specs.Val.{vals}
use Rattle.verse_value.specs.View.{vals_of}
use Rattle.verse_value.specs.Sizes.{weights, most_levels}
use Rattle.verse_value.specs.Kept.{Measures}
use Rattle.verse_value.specs.Parts.{first}
use Rattle.verse_value.proofs.Seen.{count_is, first_seen, first_all, rest_all}
use Rattle.verse_value.proofs.Sums.{cut_kept}
use Rattle.verse_value.proofs.values.Parts.truncate.Goals as goal

pub invariant_of-self : goal.invariant_of-self
invariant_of-self c =
    let before : Measures c.size_of_all-before.result (weights (vals (vals_of (drop c.args.len c.self.inside.items.items))))
    (most_levels (vals (vals_of (drop c.args.len c.self.inside.items.items)))) =
    subst (λ (l : List Value). Measures c.size_of_all-before.result (weights (vals (vals_of l))) (most_levels (vals (vals_of l))))
    (rest_all c.args.len c.deref.result.now ∙ ap (drop c.args.len) c.deref.ensures.value) c.size_of_all-before.ensures in
    cut_kept c.self.inside.items.items c.truncate.new.self.items c.self.inside.size c.size_of_all-before.result c.nothing.result
    c.resized-self-inside.result c.self.invariant c.as_slice.result.now c.as_slice.ensures.value c.resized-self-inside.ensures
    c.args.len c.truncate.ensures.items before c.nothing.ensures

pub returns-then-len : goal.returns-then-len
returns-then-len c =
    ap (λ (l : List Value). vals (vals_of l)) c.truncate.ensures.items ∙ first_seen c.args.len c.self.inside.items.items ∙
    ap (first c.args.len) c.self.view_is

pub returns-else-len : goal.returns-else-len
returns-else-len c =
    let long : c.len.result ≡ length c.self.inside.items.items = search rules in
    first_all c.args.len c.args.self.now (omega
    (arith, long, c.if-len.false, count_is c.self.inside.items.items c.args.self.now c.self.view_is))
