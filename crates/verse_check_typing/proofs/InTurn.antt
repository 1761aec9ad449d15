-- Parts one by one.
use Rattle.std.proofs.Common.{◌≡◌, ℕ, ◌+◌, List, [], ◌∷◌, length, map, refl, ap, arith}
use Rattle.verse_tree.specs.Tree.{Tree}
use Rattle.verse_tree.specs.View.{trees}
use Rattle.verse_rules_types.specs.Types.{tys, more_tys}
use Rattle.verse_check_typing.specs.Facts.{Facts, type_of}
use Rattle.verse_check_typing.specs.Parts.{types_of, count}

pub types_map : (f : Facts) (es : List Tree) → types_of f (trees es) ≡ tys (map (type_of f) es)
types_map f [] = refl
types_map f (e ∷ es) = ap (more_tys (type_of f e)) (types_map f es)

pub count_trees : {A : Type 0} (g : A → Tree) (xs : List A) → count (trees (map g xs)) ≡ length xs
count_trees g [] = refl
count_trees g (x ∷ xs) = let rest = count_trees g xs in omega (arith, rest)
