use Rattle.std.proofs.Common.{◌≡◌, ◌++◌, drop, map}
use Rattle.lower_declared.specs.Views.{class_here}
use Rattle.lower_declared.specs.Parts.{made_classes}
use Rattle.lower_declared.proofs.collecting.classes.Given as goal

-- what is done and what is left are all
abbrev pub invariant-items : goal.invariant-items
invariant-items l = map class_here l.found.items ++ made_classes (drop l.item-index l.items) ≡ made_classes l.items
