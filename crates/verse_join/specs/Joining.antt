-- The items of files, in the order of the files.
use Rattle.std.specs.Prelude.{List, map}
use Rattle.std.specs.List.{flat_map}
use Rattle.verse_tree.specs.declared.items.Item.{Item}
use Rattle.verse_tree.specs.ItemTree.{ItemTree}
use Rattle.verse_tree.specs.ItemView.{item_of}

abbrev pub file_items : List Item → List ItemTree
file_items file = map item_of file

abbrev pub joined : List (List Item) → List ItemTree
joined files = flat_map file_items files
