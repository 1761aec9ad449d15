use Rattle.std.proofs.Common.{◌≡◌, ◌++◌, length}
use Rattle.std.specs.Vec.Iter.{into_iter_items, into_iter_len}
use Rattle.verse_value.specs.View.{vals_of}
use Rattle.verse_code_machine.specs.Acts.{paired}
use Rattle.vm_ops.specs.Lists.{pairs_of}
use Rattle.vm_exec_values.proofs.Pairs.{held}
use Rattle.vm_exec_values.proofs.collected.in_pairs.Given as goal

abbrev pub invariant-values : goal.invariant-values
invariant-values l = (pairs_of l.pairs.items ++ paired (vals_of (held l.key ++ into_iter_items l.value-iterator)) ≡
    paired (vals_of l.fn.values.items))
    × (into_iter_len l.value-iterator ≡ length (into_iter_items l.value-iterator))
