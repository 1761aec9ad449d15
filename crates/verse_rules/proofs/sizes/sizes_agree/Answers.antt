use Rattle.std.proofs.Common.{◌+◌, ◌*◌, ap, map}
use Rattle.verse_tree.specs.ItemView.{item_of}
use Rattle.verse_tree.specs.Numbering.{program_nodes}
use Rattle.verse_tree.specs.Sizes.{items_fields}
use Rattle.verse_tree.specs.declared.tables.Names.{Names}
use Rattle.verse_rules.proofs.sizes.sizes_agree.Goals as goal

pub returns : goal.returns
returns c = λ p e. ap (λ (k : Names). 16 * program_nodes (map item_of p.tree.items) + 4 * items_fields k (map item_of p.tree.items)) e
