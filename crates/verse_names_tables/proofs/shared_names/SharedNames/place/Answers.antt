use Rattle.std.proofs.Common.{◌≡◌, ap, ◌∙◌}
use Rattle.verse_names_tables.specs.Names.{place}
use Rattle.verse_names_tables.proofs.Sharing.{place_told}
use Rattle.verse_names_tables.proofs.shared_names.SharedNames.place.Goals as goal

pub returns : goal.returns
returns c = c.place_told.ensures ∙ place_told _ _ _ _ _ c.self.invariant.0 c.self.invariant.1 ∙ ap (place c.args.name.now) c.self.view_is
