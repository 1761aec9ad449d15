use Rattle.std.proofs.Common.{map, arith}
use Rattle.verse_tree.specs.ItemView.{item_of}
use Rattle.verse_names_items.proofs.Numbered.{last_number}
use Rattle.verse_names_items.proofs.declarations.last_node.Goals as goal

pub returns : goal.returns
returns c = let last = last_number (map item_of c.args.tree.now.items) c.args.tree.now.nodes c.requires in omega arith
