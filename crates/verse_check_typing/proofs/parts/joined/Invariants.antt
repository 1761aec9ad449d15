use Rattle.std.proofs.Common.{◌≡◌, drop, map}
use Rattle.verse_tree.specs.View.{tree_of, trees}
use Rattle.verse_rules_types.specs.Types.{ty_of, never}
use Rattle.verse_check_typing.specs.Parts.{joined_from}
use Rattle.verse_check_typing.specs.Views.{facts_of}
use Rattle.verse_check_typing.proofs.parts.joined.Given as goal

-- the join so far with the rest is that of all
abbrev pub invariant-parts : goal.invariant-parts
invariant-parts l = joined_from (facts_of l.facts) (ty_of l.ty) (trees (map tree_of (drop l.part-index l.parts))) ≡
    joined_from (facts_of l.facts) never (trees (map tree_of l.parts))
