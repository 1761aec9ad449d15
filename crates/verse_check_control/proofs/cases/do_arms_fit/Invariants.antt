use Rattle.std.proofs.Common.{◌≡◌, drop, map}
use Rattle.verse_tree.specs.View.{tree_of, trees}
use Rattle.verse_rules_types.specs.Types.{ty_of}
use Rattle.verse_check_typing.specs.Cases.{arms_fit}
use Rattle.verse_check_typing.specs.Views.{facts_of}
use Rattle.verse_check_control.proofs.cases.do_arms_fit.Given as goal

-- what is left gives the answer
abbrev pub invariant-arms : goal.invariant-arms
invariant-arms l =
    arms_fit (facts_of l.facts) (ty_of l.subject) (trees (map tree_of (drop l.arm-index l.arms))) ≡
    arms_fit (facts_of l.facts) (ty_of l.subject) (trees (map tree_of l.arms))
