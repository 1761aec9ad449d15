use Rattle.std.proofs.Common.{ap, sym, ◌∙◌}
use Rattle.verse_names_tables.specs.Names.{look, place}
use Rattle.verse_names_tables.specs.Shared.{at_place}
use Rattle.verse_names_tables.proofs.Sharing.{look_paired}
use Rattle.verse_names_tables.proofs.shared_names.SharedNames.find.Goals as goal

pub returns : goal.returns
returns c =
    let x = c.args.name.now in
    c.number_at.ensures ∙ ap (λ o. at_place o c.self.inside.numbers) (c.place-place.ensures ∙ ap (place x) (sym c.self.view_is)) ∙
    look_paired x _ _ c.self.invariant.1 ∙ ap (look x) c.self.view_is
