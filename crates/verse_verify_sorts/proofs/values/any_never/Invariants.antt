use Rattle.std.proofs.Common.{◌≡◌, drop}
use Rattle.verse_verify_faults.specs.Fitting.{any_never}
use Rattle.verse_verify_notes.specs.View.{sorts_of}
use Rattle.verse_verify_sorts.proofs.values.any_never.Given as goal

-- what is left gives the answer
abbrev pub invariant-sorts : goal.invariant-sorts
invariant-sorts l = any_never (sorts_of (drop l.sort-index l.sorts)) ≡ any_never (sorts_of l.sorts)
