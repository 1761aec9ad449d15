use Rattle.std.proofs.Common.{◌≡◌, ◌++◌, drop}
use Rattle.verse_rules_types.specs.Types.{classes_of}
use Rattle.verse_names_declarations.specs.Known.{known_of}
use Rattle.verse_names_items.specs.Tables.{class_tables, class_tables_from}
use Rattle.verse_names_items.proofs.tables.class_tables.Given as goal

-- what is done and what is left are all
abbrev pub invariant-classes : goal.invariant-classes
invariant-classes l = classes_of l.found ++
    class_tables_from (known_of l.known) l.at (classes_of (drop l.outline-index l.known.lineage.outline)) ≡ class_tables (known_of l.known)
