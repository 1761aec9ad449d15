-- What is made and what is left are all the sorts.
use Rattle.std.proofs.Common.{◌≡◌, ◌++◌, drop, map}
use Rattle.lower_notes.specs.Programs.{with_this}
use Rattle.verse_verify_notes.specs.View.{sorts_of}
use Rattle.note_sorts.specs.Tabled.{made_sort}
use Rattle.note_sorts.proofs.functions.params.Given as goal

abbrev pub invariant-types : goal.invariant-types
invariant-types l = sorts_of l.sorts.items ++ map made_sort (drop l.ty-index l.types) ≡ with_this l.fn.this (map made_sort l.types)
