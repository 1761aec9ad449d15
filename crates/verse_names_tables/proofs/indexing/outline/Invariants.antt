use Rattle.std.proofs.Common.{◌≡◌, ◌++◌, drop, map}
use Rattle.verse_rules_types.specs.Types.{classes_of}
use Rattle.verse_names_tables.specs.Views.{table_of}
use Rattle.verse_names_tables.specs.Notes.{note_of}
use Rattle.verse_names_tables.specs.Indexing.{outlined}
use Rattle.verse_names_tables.proofs.indexing.outline.Given as goal

-- what is done and what is left are all
abbrev pub invariant-notes : goal.invariant-notes
invariant-notes l = classes_of l.found ++ map (outlined (table_of l.classes)) (map note_of (drop l.note-index l.notes)) ≡
    map (outlined (table_of l.classes)) (map note_of l.notes)
