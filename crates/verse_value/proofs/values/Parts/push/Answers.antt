use Rattle.std.proofs.Common.{List, ◌∷◌, [], ap, ◌∙◌}
use Rattle.verse_value.specs.declared.values.Value.{Value}
use Rattle.verse_value.specs.Val.{vals, more_vals, no_vals}
use Rattle.verse_value.specs.View.{val_of, vals_of}
use Rattle.verse_value.specs.Parts.{joined}
use Rattle.verse_value.proofs.Seen.{joined_seen}
use Rattle.verse_value.proofs.Sums.{push_kept}
use Rattle.verse_value.proofs.values.Parts.push.Goals as goal

pub invariant_of-self-2 : goal.invariant_of-self-2
invariant_of-self-2 c =
    push_kept c.self.inside.items.items c.push.new.self.items c.self.inside.size c.nothing.result c.size-after.result
    c.resized-self-inside.result c.self.invariant c.as_slice.result.now c.as_slice.ensures.value c.resized-self-inside.ensures
    c.args.part c.in_ok-push.ensures.items c.nothing.ensures c.size-after.ensures

pub returns-clause-ok : goal.returns-clause-ok
returns-clause-ok c =
    ap (λ (l : List Value). vals (vals_of l)) c.in_ok-push.ensures.items ∙ joined_seen c.self.inside.items.items (c.args.part ∷ []) ∙
    ap (λ vs. joined vs (more_vals (val_of c.args.part) no_vals)) c.self.view_is
