use Rattle.std.proofs.Common.{◌≡◌, ◌+◌, ◌≤◌, length}
use Rattle.verse_verify_faults.specs.Stepping.{firsts, all_keys}
use Rattle.verse_verify_notes.specs.View.{sorts_of}
use Rattle.verse_verify_operands.proofs.asking.are_keys.Given as goal

-- what is left gives the answer
abbrev pub invariant-pairs : goal.invariant-pairs
invariant-pairs l =
    (all_keys (firsts (sorts_of l.rest)) ≡ all_keys (firsts (sorts_of l.pairs))) × (length l.rest + l._i ≤ length l.pairs)
