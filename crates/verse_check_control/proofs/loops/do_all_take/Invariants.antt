use Rattle.std.proofs.Common.{◌≡◌, drop, map}
use Rattle.verse_tree.specs.View.{tree_of, trees}
use Rattle.verse_check_typing.specs.Loops.{all_take}
use Rattle.verse_check_typing.specs.Views.{facts_of}
use Rattle.verse_check_control.proofs.loops.do_all_take.Given as goal

-- what is left gives the answer
abbrev pub invariant-clauses : goal.invariant-clauses
invariant-clauses l = all_take (facts_of l.facts) (trees (map tree_of (drop l.clause-index l.clauses))) ≡
    all_take (facts_of l.facts) (trees (map tree_of l.clauses))
