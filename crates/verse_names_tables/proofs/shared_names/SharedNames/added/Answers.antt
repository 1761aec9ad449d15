use Rattle.std.proofs.Common.{ap}
use Rattle.verse_names_tables.specs.Views.{roll_of}
use Rattle.verse_names_tables.proofs.Sharing.{added_told, added_view}
use Rattle.verse_names_tables.proofs.shared_names.SharedNames.added.Goals as goal

pub invariant_of-result : goal.invariant_of-result
invariant_of-result c = added_told _ _ _ _ _ _ _ _ c.args.name _ _ _ _ c.self.view_is c.self.invariant.0 c.self.invariant.1 c.requires
    c.in_ok-at.ensures c.in_ok-places.ensures.within c.in_ok-places.ensures.placed c.in_ok-place.ensures c.in_ok-names.ensures
    c.in_ok-numbers.ensures (ap roll_of c.in_ok-known.ensures)

pub returns : goal.returns
returns c = added_view _ _ _ _ c.args.name _ _ c.self.view_is c.self.invariant.1 c.in_ok-names.ensures c.in_ok-numbers.ensures
