use Rattle.std.proofs.Common.{◌≡◌, suc, ◌+◌, ◌-◌}
use Rattle.verse_verify_faults.specs.Faults.{are_arms}
use Rattle.verse_verify_parts.specs.Heres.{code_in, table_in}
use Rattle.verse_verify_keeps.proofs.waits.are_arms.Given as goal

-- what is left gives the answer
abbrev pub invariant-arms : goal.invariant-arms
invariant-arms l =
    let h = l.here in
    are_arms (code_in h) (table_in h) (suc h.index + l.i) (l.count - l.i) ≡ are_arms (code_in h) (table_in h) (suc h.index) l.count
