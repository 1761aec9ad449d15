use Rattle.std.proofs.Common.{◌≡◌, drop, map}
use Rattle.verse_rules_types.specs.Types.{ty_of, tys}
use Rattle.verse_rules_types.specs.Fitting.{all_same}
use Rattle.verse_names_items.proofs.rules.are_same.Given as goal

-- what is left decides
abbrev pub invariant-types : goal.invariant-types
invariant-types l = all_same (tys (map ty_of (drop l.ty-index l.types))) (tys (map ty_of l.rest)) ≡
    all_same (tys (map ty_of l.types)) (tys (map ty_of l.others))
