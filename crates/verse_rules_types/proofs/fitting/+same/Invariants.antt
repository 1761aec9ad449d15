use Rattle.std.proofs.Common.{◌≡◌, drop, map}
use Rattle.verse_rules_types.specs.Types.{tys, ty_of}
use Rattle.verse_rules_types.specs.Fitting.{all_same}
use Rattle.verse_rules_types.proofs.fitting.+same.Given as goal

-- what is left of both gives the answer
abbrev pub invariant-are_same-loop-ty : goal.invariant-are_same-loop-ty
invariant-are_same-loop-ty l =
    all_same (tys (map ty_of (drop l.ty-index l.types))) (tys (map ty_of l.rest)) ≡
    all_same (tys (map ty_of l.types)) (tys (map ty_of l.others))
