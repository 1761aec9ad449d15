use Rattle.std.proofs.Common.{◌≡◌, ◌+◌, length}
use Rattle.verse_verify_faults.specs.Faults.{ready}
use Rattle.verse_verify_notes.specs.View.{sorts_of}
use Rattle.verse_verify_parts.specs.Heres.{code_in, table_in, spot_in}
use Rattle.verse_verify_keeps.proofs.blocks.are_ready.Given as goal

-- what is left gives the answer
abbrev pub invariant-entries : goal.invariant-entries
invariant-entries l =
    let h = l.here in
    (ready (code_in h) (table_in h) (spot_in h) (sorts_of l.locals) l.rest ≡
    ready (code_in h) (table_in h) (spot_in h) (spot_in h).locals (spot_in h).defers) × (length l.rest + l._i ≡ length (spot_in h).defers)
