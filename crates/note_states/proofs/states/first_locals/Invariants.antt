use Rattle.std.proofs.Common.{◌≡◌, ◌-◌, ◌++◌, length}
use Rattle.verse_verify_kept.specs.Rules.{nones}
use Rattle.verse_verify_notes.specs.View.{sorts_of}
use Rattle.note_states.proofs.states.first_locals.Given as goal

-- what is there and what is left are all the locals
abbrev pub invariant-locals : goal.invariant-locals
invariant-locals l = sorts_of l.locals.items ++ nones (l.count - l._local) ≡ sorts_of l.params ++ nones (l.count - length l.params)
