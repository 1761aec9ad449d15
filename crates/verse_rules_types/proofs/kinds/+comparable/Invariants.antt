use Rattle.std.proofs.Common.{◌≡◌, drop, map}
use Rattle.verse_rules_types.specs.Types.{ty_of, tys, classes_of}
use Rattle.verse_rules_types.specs.Kinds.{all_comparable}
use Rattle.verse_rules_types.proofs.kinds.+comparable.Given as goal

abbrev pub invariant-are_comparable-loop-ty : goal.invariant-are_comparable-loop-ty
invariant-are_comparable-loop-ty l =
    let cs = classes_of l.classes in
    all_comparable cs (tys (map ty_of (drop l.ty-index l.types))) ≡ all_comparable cs (tys (map ty_of l.types))
