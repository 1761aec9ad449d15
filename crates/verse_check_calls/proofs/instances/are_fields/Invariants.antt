use Rattle.std.proofs.Common.{◌≡◌, drop, map}
use Rattle.verse_tree.specs.View.{given_of, givens}
use Rattle.verse_check_typing.specs.Members.{are_fields}
use Rattle.verse_check_typing.specs.Views.{facts_of}
use Rattle.verse_check_calls.proofs.instances.are_fields.Given as goal

-- what is left gives the answer
abbrev pub invariant-parts : goal.invariant-parts
invariant-parts l = are_fields (facts_of l.facts) l.class (givens (map given_of (drop l.part-index l.parts))) ≡
    are_fields (facts_of l.facts) l.class (givens (map given_of l.parts))
