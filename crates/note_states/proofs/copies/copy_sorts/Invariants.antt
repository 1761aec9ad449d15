-- What is copied and what is left are all the sorts.
use Rattle.std.proofs.Common.{◌≡◌, ◌++◌, drop}
use Rattle.verse_verify_notes.specs.View.{sorts_of}
use Rattle.note_states.proofs.copies.copy_sorts.Given as goal

abbrev pub invariant-sorts : goal.invariant-sorts
invariant-sorts l = sorts_of l.copies.items ++ sorts_of (drop l.sort-index l.sorts) ≡ sorts_of l.sorts
