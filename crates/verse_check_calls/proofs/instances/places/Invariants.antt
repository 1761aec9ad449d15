use Rattle.std.proofs.Common.{◌≡◌, [], drop, map}
use Rattle.verse_tree.specs.View.{given_of, givens}
use Rattle.verse_check_typing.specs.Members.{places_from}
use Rattle.verse_check_typing.specs.Views.{facts_of, numbers_of}
use Rattle.verse_check_calls.proofs.instances.places.Given as goal

-- the places so far with those of the rest are all
abbrev pub invariant-parts : goal.invariant-parts
invariant-parts l = places_from (facts_of l.facts) l.class (numbers_of l.found) (givens (map given_of (drop l.part-index l.parts))) ≡
    places_from (facts_of l.facts) l.class [] (givens (map given_of l.parts))
