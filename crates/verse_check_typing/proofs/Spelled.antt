-- The types of a list of written ones, one by one.
use Rattle.std.proofs.Common.{◌≡◌, List, [], ◌∷◌, Option, map, refl, ap}
use Rattle.verse_tree.specs.Tree.{Written}
use Rattle.verse_tree.specs.View.{writtens}
use Rattle.verse_tree.specs.declared.tables.Ref.{Ref}
use Rattle.verse_rules_types.specs.Types.{tys, more_tys}
use Rattle.verse_check_typing.specs.Spelling.{spelled_by, all_spelled_by}

pub all_spelled_map : (rs : List (Option Ref)) (ws : List Written) → all_spelled_by rs (writtens ws) ≡ tys (map (spelled_by rs) ws)
all_spelled_map rs [] = refl
all_spelled_map rs (w ∷ ws) = ap (more_tys (spelled_by rs w)) (all_spelled_map rs ws)
