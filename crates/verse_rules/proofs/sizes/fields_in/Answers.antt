use Rattle.std.proofs.Common.{map, ◌∙◌}
use Rattle.verse_tree.specs.ItemView.{item_of}
use Rattle.verse_rules.proofs.Counting.{all_counted}
use Rattle.verse_rules.proofs.sizes.fields_in.Goals as goal

pub returns : goal.returns
returns c = c.in_ok-fields.ensures ∙ all_counted c.args.names.now (map item_of c.args.tree.now.items)
