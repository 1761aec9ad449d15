-- Names with numbers in an order, and where each of all names stands in it.
use Rattle.std.specs.Prelude.{◌≡◌, ℕ, List, [], ◌∷◌, map, Option, Some, None, slice_get}
use Rattle.verse_tree.specs.Tree.{Bytes}
use Rattle.verse_names_tables.specs.Names.{Roll, place}

abbrev pub second : Bytes × ℕ → ℕ
second e = e.1

-- names with their numbers
abbrev pub paired : List Bytes → List ℕ → List (Bytes × ℕ)
paired [] ns = []
paired (x ∷ xs) [] = []
paired (x ∷ xs) (n ∷ ns) = (x, n) ∷ paired xs ns

abbrev pub unnumbered : List Bytes → List (Bytes × ℕ)
unnumbered [] = []
unnumbered (x ∷ xs) = (x, 0) ∷ unnumbered xs

abbrev pub told : Option (Option ℕ) → Option ℕ
told None = None
told (Some o) = o

abbrev pub told_at : Option ℕ → List (Option ℕ) → Option ℕ
told_at None ps = None
told_at (Some i) ps = told (slice_get ps i)

abbrev pub at_place : Option ℕ → List ℕ → Option ℕ
at_place None ns = None
at_place (Some i) ns = slice_get ns i

-- at the place of each of all names stands where it is among some of them
abbrev pub ArePlaces : Roll → List (Option ℕ) → List Bytes → Type 0
ArePlaces all ps xs = (x : Bytes) → told_at (place x all) ps ≡ place x (unnumbered xs)
