-- What is written and what is left are all the entries.
use Rattle.std.proofs.Common.{◌≡◌, ◌++◌, drop}
use Rattle.verse_verify_bytes.specs.Bytes.{each, class_note}
use Rattle.verse_verify_notes.specs.View.{classes_of}
use Rattle.verse_verify_writer.proofs.tables.push_classes.Given as goal

abbrev pub invariant-entries : goal.invariant-entries
invariant-entries l =
    l.out.items ++ each class_note (classes_of (drop l.entry-index l.notes)) ≡ l.fn.out.items ++ each class_note (classes_of l.notes)
