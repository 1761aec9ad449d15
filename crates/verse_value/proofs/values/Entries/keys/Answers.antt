use Rattle.std.proofs.Common.{sym, ap, ◌∙◌}
use Rattle.verse_value.specs.Parts.{keys_in}
use Rattle.verse_value.proofs.Seen.{keys_seen}
use Rattle.verse_value.proofs.values.Entries.keys.Goals as goal

pub returns : goal.returns
returns c =
    c.as_slice.ensures.keys ∙ sym (keys_seen c.self.inside.keys.keys c.self.inside.values.items c.self.invariant.0) ∙
    ap keys_in c.self.view_is
