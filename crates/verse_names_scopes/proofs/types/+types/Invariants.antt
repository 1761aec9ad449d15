use Rattle.std.proofs.Common.{◌≡◌, map, drop}
use Rattle.verse_tree.specs.View.{written_of, writtens}
use Rattle.verse_names_scopes.specs.Scopes.{through_writtens}
use Rattle.verse_names_scopes.specs.Naming.{noted}
use Rattle.verse_names_scopes.specs.Views.{world_of, naming_of}
use Rattle.verse_names_scopes.proofs.types.+types.Given as goal

-- what is left, from here on, ends as all does from the start
abbrev pub invariant-walk_types-parts : goal.invariant-walk_types-parts
invariant-walk_types-parts l =
    let ends = through_writtens (noted (world_of l.world)) l.in_body in
    let all = ends (writtens (map written_of l.parts)) (naming_of l.fn.naming) in
    ends (writtens (map written_of (drop l.part-index l.parts))) (naming_of l.naming) ≡ all
