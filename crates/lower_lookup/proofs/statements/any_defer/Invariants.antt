use Rattle.std.proofs.Common.{◌≡◌, map, drop}
use Rattle.verse_tree.specs.View.{tree_of, trees}
use Rattle.lower_code.specs.Lowering.{any_defer}
use Rattle.lower_lookup.proofs.statements.any_defer.Given as goal

-- what is left decides
abbrev pub invariant-parts : goal.invariant-parts
invariant-parts l = any_defer (trees (map tree_of (drop l.part-index l.parts))) ≡ any_defer (trees (map tree_of l.parts))
