-- What is written and what is left are all the parts.
use Rattle.std.proofs.Common.{◌≡◌, ◌++◌, drop}
use Rattle.verse_verify_bytes.specs.Bytes.{each, sort}
use Rattle.verse_verify_notes.specs.View.{sorts_of}
use Rattle.verse_verify_writer.proofs.sorts.+push_sort.Given as goal

abbrev pub invariant-push_parts-parts : goal.invariant-push_parts-parts
invariant-push_parts-parts l =
    l.out.items ++ each sort (sorts_of (drop l.part-index l.parts)) ≡ l.fn.out.items ++ each sort (sorts_of l.parts)
