use Rattle.std.proofs.Common.{◌≡◌, [], drop, map}
use Rattle.verse_tree.specs.View.{tree_of, trees}
use Rattle.verse_check_typing.specs.Cases.{named_from}
use Rattle.verse_check_typing.specs.Views.{facts_of, names_of}
use Rattle.verse_check_control.proofs.cases.named.Given as goal

-- the names so far with those of the rest are those of all
abbrev pub invariant-arms : goal.invariant-arms
invariant-arms l =
    named_from (facts_of l.facts) l.of (names_of l.found) (trees (map tree_of (drop l.arm-index l.arms))) ≡
    named_from (facts_of l.facts) l.of [] (trees (map tree_of l.arms))
