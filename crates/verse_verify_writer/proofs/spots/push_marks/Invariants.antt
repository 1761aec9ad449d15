-- What is written and what is left are all the entries.
use Rattle.std.proofs.Common.{◌≡◌, ◌++◌, drop, map}
use Rattle.verse_verify_bytes.specs.Bytes.{each, counted, open_try}
use Rattle.verse_verify_notes.specs.View.{mark_of}
use Rattle.verse_verify_writer.proofs.spots.push_marks.Given as goal

abbrev pub invariant-entries : goal.invariant-entries
invariant-entries l =
    l.out.items ++ each open_try (map mark_of (drop l.entry-index l.marks)) ≡ l.fn.out.items ++ counted open_try (map mark_of l.marks)
