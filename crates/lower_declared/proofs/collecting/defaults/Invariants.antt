use Rattle.std.proofs.Common.{◌≡◌, ◌++◌, drop, map}
use Rattle.verse_tree.specs.ItemView.{item_of}
use Rattle.lower_code.specs.Defaults.{defaults_in}
use Rattle.lower_declared.specs.Views.{field_now}
use Rattle.lower_declared.proofs.collecting.defaults.Given as goal

-- what is done and what is left are all
abbrev pub invariant-items : goal.invariant-items
invariant-items l = map field_now l.found.items ++ defaults_in (map item_of (drop l.item-index l.items)) ≡ defaults_in (map item_of l.items)
