use Rattle.std.proofs.Common.{◌≡◌, drop, map, max, min}
use Rattle.verse_rules_types.specs.Types.{ty_of, tys}
use Rattle.verse_rules_types.specs.Kinds.{most_levels}
use Rattle.verse_rules_types.proofs.kinds.+levels.Given as goal

abbrev pub invariant-most_levels-loop-ty : goal.invariant-most_levels-loop-ty
invariant-most_levels-loop-ty l =
    max l.most (min (most_levels (tys (map ty_of (drop l.ty-index l.types)))) 4294967295) ≡
    min (most_levels (tys (map ty_of l.types))) 4294967295
