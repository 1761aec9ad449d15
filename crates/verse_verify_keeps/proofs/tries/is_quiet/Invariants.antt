use Rattle.std.proofs.Common.{◌≡◌, drop}
use Rattle.verse_verify_faults.specs.Faults.{is_quiet}
use Rattle.verse_verify_parts.specs.Heres.{code_in, table_in, names_in}
use Rattle.verse_verify_keeps.proofs.tries.is_quiet.Given as goal

-- what is left gives the answer
abbrev pub invariant-names : goal.invariant-names
invariant-names l =
    let h = l.here in
    is_quiet (code_in h) (table_in h) (drop l.at (names_in h)) l.local ≡ is_quiet (code_in h) (table_in h) (names_in h) l.local
