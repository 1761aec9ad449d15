use Rattle.std.proofs.Common.{◌≡◌, ◌++◌, drop, map}
use Rattle.verse_names_tables.specs.Counting.{counted_of}
use Rattle.verse_names_tables.specs.Notes.{note_of, notes}
use Rattle.verse_names_tables.proofs.indexing.note_classes.Given as goal

-- what is done and what is left are all
abbrev pub invariant-items : goal.invariant-items
invariant-items l = map note_of l.found.items ++ notes (map counted_of (drop l.item-index l.items)) ≡ notes (map counted_of l.items)
