-- What is found and what is left are all the functions.
use Rattle.std.proofs.Common.{◌≡◌, ◌++◌, drop, map}
use Rattle.verse_tree.specs.ItemView.{item_of}
use Rattle.note_sorts.specs.Owning.{owners, owners_from}
use Rattle.note_sorts.proofs.functions.owners.Given as goal

abbrev pub invariant-items : goal.invariant-items
invariant-items l = l.found.items ++ owners_from l.class (map item_of (drop l.item-index l.items)) ≡ owners (map item_of l.items)
