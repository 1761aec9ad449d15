use Rattle.std.proofs.Common.{◌≡◌, drop, map}
use Rattle.verse_rules_types.specs.Types.{tys, ty_of, classes_of}
use Rattle.verse_rules_types.specs.Fitting.{all_fit}
use Rattle.verse_rules_types.proofs.fitting.+fit.Given as goal

-- what is left of both gives the answer
abbrev pub invariant-do_fit-loop-ty : goal.invariant-do_fit-loop-ty
invariant-do_fit-loop-ty l =
    all_fit (classes_of l.classes) (tys (map ty_of (drop l.ty-index l.types))) (tys (map ty_of l.rest)) ≡
    all_fit (classes_of l.classes) (tys (map ty_of l.types)) (tys (map ty_of l.others))
