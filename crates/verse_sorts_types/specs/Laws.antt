-- Types of the checker as sorts.
use Rattle.std.specs.Prelude.{◌≡◌, true, List}
use Rattle.verse_rules_types.specs.Types.{Ty, Class}
use Rattle.verse_rules_types.specs.Fitting.{fits, join, parent_of}
use Rattle.verse_sorts.specs.Sorts.{Fits}
use Rattle.verse_sorts_types.specs.SortOf.{sort_of}

-- a type that fits another one has a sort that fits the other's
abbrev pub TypesFit : Type 0
TypesFit = (cs : List Class) (a b : Ty) → fits cs a b ≡ true →
    Fits (parent_of cs) (sort_of a) (sort_of b)

-- two types fit what they join to
abbrev pub TypesJoin : Type 0
TypesJoin = (cs : List Class) (a b : Ty) → Fits (parent_of cs) (sort_of a) (sort_of (join cs a b)) ×
    Fits (parent_of cs) (sort_of b) (sort_of (join cs a b))
