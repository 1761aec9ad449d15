use Rattle.std.proofs.Common.{◌≡◌, ◌++◌, drop, map}
use Rattle.verse_tree.specs.View.{written_of}
use Rattle.verse_rules_types.specs.Types.{ty_of}
use Rattle.verse_names_tables.specs.Views.{table_of}
use Rattle.verse_names_tables.specs.Functions.{spelled}
use Rattle.verse_names_tables.proofs.functions.+spelled.Given as goal

-- what is done and what is left are all
abbrev pub invariant-each_spelled-parts : goal.invariant-each_spelled-parts
invariant-each_spelled-parts l = map ty_of l.found ++ map (spelled (table_of l.types)) (map written_of (drop l.part-index l.parts)) ≡
    map (spelled (table_of l.types)) (map written_of l.parts)
