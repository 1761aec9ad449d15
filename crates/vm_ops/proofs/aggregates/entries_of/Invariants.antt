use Rattle.std.proofs.Common.{◌≡◌, length}
use Rattle.std.specs.Vec.Iter.{into_iter_items, into_iter_len}
use Rattle.verse_value.specs.Operations.{map_of, keyed}
use Rattle.vm_ops.specs.Lists.{pairs_of}
use Rattle.vm_ops.proofs.Entered.{map_from}
use Rattle.vm_ops.proofs.aggregates.entries_of.Given as goal

abbrev pub invariant-pairs : goal.invariant-pairs
invariant-pairs l = (map_from l.entries (keyed (pairs_of (into_iter_items l.pair-iterator))) ≡ map_of (pairs_of l.fn.pairs.items))
    × (into_iter_len l.pair-iterator ≡ length (into_iter_items l.pair-iterator))
