-- What is taken and what is left are all the Trys.
use Rattle.std.proofs.Common.{◌≡◌, ◌++◌, map, drop}
use Rattle.verse_verify_notes.specs.View.{mark_of}
use Rattle.lower_notes.specs.States.{indices}
use Rattle.note_states.proofs.states.indices.Given as goal

abbrev pub invariant-tries : goal.invariant-tries
invariant-tries l = l.all.items ++ indices (map mark_of (drop l.mark-index l.tries)) ≡ indices (map mark_of l.tries)
