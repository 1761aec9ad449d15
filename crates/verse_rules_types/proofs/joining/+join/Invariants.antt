use Rattle.std.proofs.Common.{◌≡◌, drop, map}
use Rattle.verse_rules_types.specs.Types.{ty_of, tys, classes_of}
use Rattle.verse_rules_types.specs.Fitting.{all_joined}
use Rattle.verse_rules_types.proofs.Before.{before}
use Rattle.verse_rules_types.proofs.joining.+join.Given as goal

abbrev pub invariant-all_joined-loop-ty : goal.invariant-all_joined-loop-ty
invariant-all_joined-loop-ty l =
    let cs = classes_of l.classes in
    before l.joined (all_joined cs (tys (map ty_of (drop l.ty-index l.types))) (tys (map ty_of l.rest))) ≡
    all_joined cs (tys (map ty_of l.types)) (tys (map ty_of l.others))
