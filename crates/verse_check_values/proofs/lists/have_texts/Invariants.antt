use Rattle.std.proofs.Common.{◌≡◌, drop, map}
use Rattle.verse_tree.specs.View.{hole_of, holes}
use Rattle.verse_check_typing.specs.Parts.{have_texts}
use Rattle.verse_check_typing.specs.Views.{facts_of}
use Rattle.verse_check_values.proofs.lists.have_texts.Given as goal

-- what is left gives the answer
abbrev pub invariant-parts : goal.invariant-parts
invariant-parts l = have_texts (facts_of l.facts) (holes (map hole_of (drop l.part-index l.parts))) ≡
    have_texts (facts_of l.facts) (holes (map hole_of l.parts))
