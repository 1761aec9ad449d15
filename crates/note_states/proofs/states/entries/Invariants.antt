-- What is taken and what is left are all the blocks.
use Rattle.std.proofs.Common.{◌≡◌, ◌++◌, map, drop}
use Rattle.note_states.specs.View.{deferred_of, entries_of}
use Rattle.note_states.proofs.states.entries.Given as goal

abbrev pub invariant-defers : goal.invariant-defers
invariant-defers l =
    l.all.items ++ entries_of (map deferred_of (drop l.deferred-index l.defers)) ≡ entries_of (map deferred_of l.defers)
