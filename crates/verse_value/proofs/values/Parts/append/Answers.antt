use Rattle.std.proofs.Common.{List, ap, ◌∙◌}
use Rattle.verse_value.specs.declared.values.Value.{Value}
use Rattle.verse_value.specs.Val.{vals}
use Rattle.verse_value.specs.View.{vals_of}
use Rattle.verse_value.specs.Parts.{joined}
use Rattle.verse_value.proofs.Seen.{joined_seen}
use Rattle.verse_value.proofs.Sums.{joined_kept}
use Rattle.verse_value.proofs.values.Parts.append.Goals as goal

pub invariant_of-self-2 : goal.invariant_of-self-2
invariant_of-self-2 c =
    joined_kept c.self.inside.items.items c.more.inside.items.items c.append.new.self.items c.self.inside.size c.more.inside.size
    c.joined-self-inside.result c.in_ok-append.ensures.items c.self.invariant c.more.invariant c.joined-self-inside.ensures.weight
    c.joined-self-inside.ensures.levels

pub returns-clause-ok : goal.returns-clause-ok
returns-clause-ok c =
    ap (λ (l : List Value). vals (vals_of l)) c.in_ok-append.ensures.items ∙
    joined_seen c.self.inside.items.items c.more.inside.items.items ∙ (λ i. joined (c.self.view_is i) (c.more.view_is i))
