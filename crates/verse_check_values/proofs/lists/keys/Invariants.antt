use Rattle.std.proofs.Common.{◌≡◌, drop, map}
use Rattle.verse_tree.specs.View.{pair_of, pairs}
use Rattle.verse_rules_types.specs.Types.{ty_of, never}
use Rattle.verse_check_typing.specs.Parts.{keys_from}
use Rattle.verse_check_typing.specs.Views.{facts_of}
use Rattle.verse_check_values.proofs.lists.keys.Given as goal

-- the join so far with the rest is that of all
abbrev pub invariant-parts : goal.invariant-parts
invariant-parts l = keys_from (facts_of l.facts) (ty_of l.ty) (pairs (map pair_of (drop l.part-index l.parts))) ≡
    keys_from (facts_of l.facts) never (pairs (map pair_of l.parts))
