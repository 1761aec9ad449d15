-- What is noted and what is left are all the classes.
use Rattle.std.proofs.Common.{◌≡◌, ◌++◌, drop, map}
use Rattle.verse_verify_notes.specs.View.{classes_of}
use Rattle.note_sorts.specs.Classes.{class_note}
use Rattle.note_sorts.proofs.classes.class_notes.Given as goal

abbrev pub invariant-classes : goal.invariant-classes
invariant-classes l = classes_of l.notes.items ++ map class_note (drop l.class-index l.classes) ≡ map class_note l.classes
