-- The types of a list of written ones, one by one.
use Rattle.std.proofs.Common.{◌≡◌, List, [], ◌∷◌, map, refl, ap}
use Rattle.verse_tree.specs.Tree.{Written}
use Rattle.verse_tree.specs.View.{writtens}
use Rattle.verse_rules_types.specs.Types.{tys, more_tys}
use Rattle.verse_names_tables.specs.Names.{Table}
use Rattle.verse_names_tables.specs.Functions.{spelled, all_spelled}

pub all_spelled_map : (ts : Table) (ws : List Written) → all_spelled ts (writtens ws) ≡ tys (map (spelled ts) ws)
all_spelled_map ts [] = refl
all_spelled_map ts (w ∷ ws) = ap (more_tys (spelled ts w)) (all_spelled_map ts ws)
