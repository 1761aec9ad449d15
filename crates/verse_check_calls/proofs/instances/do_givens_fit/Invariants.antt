use Rattle.std.proofs.Common.{◌≡◌, drop, map}
use Rattle.verse_tree.specs.View.{given_of, givens}
use Rattle.verse_check_typing.specs.Members.{givens_fit}
use Rattle.verse_check_typing.specs.Views.{facts_of}
use Rattle.verse_check_calls.proofs.instances.do_givens_fit.Given as goal

-- what is left gives the answer
abbrev pub invariant-parts : goal.invariant-parts
invariant-parts l = givens_fit (facts_of l.facts) l.class (givens (map given_of (drop l.part-index l.parts))) ≡
    givens_fit (facts_of l.facts) l.class (givens (map given_of l.parts))
