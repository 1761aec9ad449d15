use Rattle.std.proofs.Common.{◌≡◌, ◌++◌, map, length}
use Rattle.verse_rules_types.specs.Types.{field_of}
use Rattle.verse_names_tables.specs.Views.{table_of}
use Rattle.verse_names_tables.specs.Notes.{note_of}
use Rattle.verse_names_items.specs.Tables.{fields_of}
use Rattle.verse_names_items.proofs.tables.fields_of.Given as goal

-- what is done and what is left are all
abbrev pub invariant-classes : goal.invariant-classes
invariant-classes l = map field_of l.found ++ fields_of (table_of l.types) (map note_of l.notes) l.line ≡
    fields_of (table_of l.types) (map note_of l.notes) l.fn.line

abbrev pub decreases-classes : goal.decreases-classes
decreases-classes l = length l.line
