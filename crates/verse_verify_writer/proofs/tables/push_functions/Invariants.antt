-- What is written and what is left are all the entries.
use Rattle.std.proofs.Common.{◌≡◌, ◌++◌, drop, map}
use Rattle.verse_verify_bytes.specs.Bytes.{each, func_note}
use Rattle.verse_verify_notes.specs.View.{func_of}
use Rattle.verse_verify_writer.proofs.tables.push_functions.Given as goal

abbrev pub invariant-entries : goal.invariant-entries
invariant-entries l =
    l.out.items ++ each func_note (map func_of (drop l.entry-index l.notes)) ≡ l.fn.out.items ++ each func_note (map func_of l.notes)
