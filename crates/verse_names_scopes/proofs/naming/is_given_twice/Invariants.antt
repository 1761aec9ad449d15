use Rattle.std.proofs.Common.{◌≡◌, [], map, drop}
use Rattle.verse_tree.specs.View.{given_of, givens}
use Rattle.verse_names_tables.specs.Names.{any_again}
use Rattle.verse_names_tables.specs.Views.{roll_of}
use Rattle.verse_names_scopes.specs.Subjects.{given_names}
use Rattle.verse_names_scopes.proofs.naming.is_given_twice.Given as goal

-- what is left, beside what was seen, decides
abbrev pub invariant-parts : goal.invariant-parts
invariant-parts l =
    let all = any_again (given_names (givens (map given_of l.parts))) [] in
    any_again (given_names (givens (map given_of (drop l.part-index l.parts)))) (roll_of l.seen) ≡ all
