-- What is copied and what is left are all the blocks.
use Rattle.std.proofs.Common.{◌≡◌, ◌++◌, map, drop}
use Rattle.note_states.specs.View.{deferred_of}
use Rattle.note_states.proofs.states.copy_defers.Given as goal

abbrev pub invariant-defers : goal.invariant-defers
invariant-defers l = map deferred_of l.copies.items ++ map deferred_of (drop l.deferred-index l.defers) ≡ map deferred_of l.defers
