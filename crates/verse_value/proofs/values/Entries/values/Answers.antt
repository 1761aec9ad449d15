use Rattle.std.proofs.Common.{List, sym, ap, ◌∙◌}
use Rattle.verse_value.specs.declared.values.Value.{Value}
use Rattle.verse_value.specs.Val.{vals}
use Rattle.verse_value.specs.View.{vals_of}
use Rattle.verse_value.specs.Parts.{vals_in}
use Rattle.verse_value.proofs.Seen.{vals_seen}
use Rattle.verse_value.proofs.values.Entries.values.Goals as goal

pub returns : goal.returns
returns c =
    ap (λ (l : List Value). vals (vals_of l)) c.as_slice.ensures.value ∙
    sym (vals_seen c.self.inside.keys.keys c.self.inside.values.items c.self.invariant.0) ∙ ap vals_in c.self.view_is
