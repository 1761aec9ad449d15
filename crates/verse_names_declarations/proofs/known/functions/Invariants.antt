use Rattle.std.proofs.Common.{◌≡◌, ◌++◌, drop, map}
use Rattle.verse_names_tables.specs.Views.{table_of}
use Rattle.verse_names_tables.specs.Functions.{function_of}
use Rattle.verse_names_tables.specs.Counting.{counted_of}
use Rattle.verse_names_declarations.specs.Known.{functions}
use Rattle.verse_names_declarations.proofs.known.functions.Given as goal

-- what is done and what is left are all
abbrev pub invariant-items : goal.invariant-items
invariant-items l = map function_of l.found ++ functions (table_of l.types) (map counted_of (drop l.item-index l.items)) ≡
    functions (table_of l.types) (map counted_of l.items)
