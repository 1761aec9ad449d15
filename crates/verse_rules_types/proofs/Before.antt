-- Types that were joined, before those that are left.
use Rattle.std.proofs.Common.{◌≡◌, List, [], ◌∷◌, ◌++◌, Option, Some, None, map, refl, ap}
use Rattle.verse_tree.specs.declared.tables.Ty.{Ty as Made}
use Rattle.verse_rules_types.specs.Types.{Tys, no_tys, tys, ty_of}
use Rattle.verse_rules_types.specs.Fitting.{one_more}

abbrev pub before : List Made → Option Tys → Option Tys
before [] left = left
before (t ∷ ts) left = one_more (ty_of t) (before ts left)

pub before_push : (ts : List Made) (t : Made) (left : Option Tys) → before (ts ++ t ∷ []) left ≡ before ts (one_more (ty_of t) left)
before_push [] t left = refl
before_push (u ∷ us) t left = ap (one_more (ty_of u)) (before_push us t left)

pub before_none : (ts : List Made) → before ts None ≡ None
before_none [] = refl
before_none (t ∷ ts) = ap (one_more (ty_of t)) (before_none ts)

pub before_end : (ts : List Made) → before ts (Some no_tys) ≡ Some (tys (map ty_of ts))
before_end [] = refl
before_end (t ∷ ts) = ap (one_more (ty_of t)) (before_end ts)
