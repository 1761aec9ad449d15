use Rattle.std.proofs.Common.{◌≡◌, drop}
use Rattle.verse_verify_faults.specs.Faults.{all_quiet}
use Rattle.verse_verify_parts.specs.Heres.{code_in, table_in, names_in}
use Rattle.verse_verify_keeps.proofs.tries.are_quiet.Given as goal

-- what is left gives the answer
abbrev pub invariant-writes : goal.invariant-writes
invariant-writes l =
    let h = l.here in
    all_quiet (code_in h) (table_in h) (names_in h) (drop l.local-index l.writes) ≡ all_quiet (code_in h) (table_in h) (names_in h) l.writes
