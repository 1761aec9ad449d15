use Rattle.std.proofs.Common.{◌≡◌, drop}
use Rattle.verse_verify_notes.specs.View.{sorts_of, classes_of}
use Rattle.verse_verify_entries.specs.Entries.{all_nothing}
use Rattle.verse_verify_entries.proofs.beginnings.do_all_ask_nothing.Given as goal

-- what is left gives the answer
abbrev pub invariant-sorts : goal.invariant-sorts
invariant-sorts l =
    all_nothing (classes_of l.classes) (sorts_of (drop l.sort-index l.sorts)) ≡ all_nothing (classes_of l.classes) (sorts_of l.sorts)
