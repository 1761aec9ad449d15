use Rattle.std.proofs.Common.{sym, ap, ◌∙◌}
use Rattle.verse_value.specs.Parts.{keys_in}
use Rattle.verse_value.specs.Entries.{key_place}
use Rattle.verse_value.proofs.Seen.{keys_seen}
use Rattle.verse_value.proofs.KeyPlaces.{position_place}
use Rattle.verse_value.proofs.values.Entries.place.Goals as goal

pub returns : goal.returns
returns c =
    c.get_index_of.ensures.index ∙ position_place c.args.key.now c.self.inside.keys.keys ∙
    ap (key_place c.args.key.now) (sym (keys_seen c.self.inside.keys.keys c.self.inside.values.items c.self.invariant.0) ∙
    ap keys_in c.self.view_is)
