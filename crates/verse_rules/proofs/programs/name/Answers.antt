use Rattle.std.proofs.Common.{map, ◌∙◌}
use Rattle.verse_tree.specs.ItemView.{item_of}
use Rattle.verse_rules.proofs.Made.{names_made}
use Rattle.verse_rules.proofs.programs.name.Goals as goal

pub returns-clause-names : goal.returns-clause-names
returns-clause-names c =
    c.into_names.ensures ∙ names_made (map item_of c.args.tree.now.items) c.in_ok-named.named.tables c.in_ok-named.named.refs
    c.in_ok-named.ensures.tables c.in_ok-named.ensures.refs
