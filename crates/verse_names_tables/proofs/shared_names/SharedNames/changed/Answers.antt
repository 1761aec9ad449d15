use Rattle.verse_names_tables.proofs.Sharing.{changed_view}
use Rattle.verse_names_tables.proofs.shared_names.SharedNames.changed.Goals as goal

pub returns : goal.returns
returns c = changed_view _ _ _ _ c.args.name.now _ _ _ c.self.view_is c.self.invariant.1 c.requires c.in_ok-names.ensures c.in_ok-numbers.ensures
