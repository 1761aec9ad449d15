use Rattle.std.proofs.Common.{◌≡◌, ◌++◌, drop, map}
use Rattle.verse_tree.specs.View.{tree_of}
use Rattle.verse_rules_types.specs.Types.{ty_of}
use Rattle.verse_check_typing.specs.Facts.{type_of}
use Rattle.verse_check_typing.specs.Views.{facts_of}
use Rattle.verse_check_typing.proofs.parts.each_type.Given as goal

-- what is done and what is left are all
abbrev pub invariant-parts : goal.invariant-parts
invariant-parts l = map ty_of l.found ++ map (type_of (facts_of l.facts)) (map tree_of (drop l.part-index l.parts)) ≡
    map (type_of (facts_of l.facts)) (map tree_of l.parts)
