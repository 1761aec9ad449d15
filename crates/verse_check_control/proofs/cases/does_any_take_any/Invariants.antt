use Rattle.std.proofs.Common.{◌≡◌, drop, map}
use Rattle.verse_tree.specs.View.{tree_of, trees}
use Rattle.verse_check_typing.specs.Cases.{any_takes_any}
use Rattle.verse_check_control.proofs.cases.does_any_take_any.Given as goal

-- what is left gives the answer
abbrev pub invariant-arms : goal.invariant-arms
invariant-arms l = any_takes_any (trees (map tree_of (drop l.arm-index l.arms))) ≡ any_takes_any (trees (map tree_of l.arms))
