-- What is made and what is left are all the sorts.
use Rattle.std.proofs.Common.{◌≡◌, ◌++◌, drop, map}
use Rattle.verse_verify_notes.specs.View.{sorts_of}
use Rattle.note_sorts.specs.Tabled.{made_sort}
use Rattle.note_sorts.proofs.types.+sort.Given as goal

abbrev pub invariant-sorts_of-types : goal.invariant-sorts_of-types
invariant-sorts_of-types l = sorts_of l.sorts.items ++ map made_sort (drop l.ty-index l.types) ≡ map made_sort l.types
