use Rattle.std.proofs.Common.{◌≡◌, ◌++◌, drop, map}
use Rattle.verse_tree.specs.ItemView.{item_of}
use Rattle.verse_meaning.specs.Programs.{enums}
use Rattle.lower_declared.specs.Views.{enum_now}
use Rattle.lower_declared.proofs.collecting.enums.Given as goal

-- what is done and what is left are all
abbrev pub invariant-items : goal.invariant-items
invariant-items l = map enum_now l.found.items ++ enums (map item_of (drop l.item-index l.items)) ≡ enums (map item_of l.items)
