use Rattle.std.proofs.Common.{map}
use Rattle.verse_rules_types.specs.Types.{classes_of}
use Rattle.verse_names_tables.specs.Notes.{note_of}
use Rattle.verse_names_declarations.specs.Descents.{AreTraced}
use Rattle.verse_names_declarations.proofs.lineage.nothing_made.Given as goal

abbrev pub invariant-classes : goal.invariant-classes
invariant-classes l = AreTraced (map note_of l.notes) (classes_of l.outline) l.found.items
