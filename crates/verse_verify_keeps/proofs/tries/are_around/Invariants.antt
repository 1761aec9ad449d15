use Rattle.std.proofs.Common.{◌≡◌, drop}
use Rattle.verse_verify_faults.specs.Faults.{all_around}
use Rattle.verse_verify_parts.specs.Heres.{code_in, table_in, names_in}
use Rattle.verse_verify_keeps.proofs.tries.are_around.Given as goal

-- what is left gives the answer
abbrev pub invariant-names : goal.invariant-names
invariant-names l =
    let h = l.here in
    all_around (code_in h) (table_in h) h.index (drop l.at (names_in h)) ≡ all_around (code_in h) (table_in h) h.index (names_in h)
