use Rattle.std.proofs.Common.{◌≡◌, ◌+◌, length}
use Rattle.verse_verify_notes.specs.View.{sorts_of}
use Rattle.verse_verify_parts.specs.Heres.{spot_in, suited}
use Rattle.verse_verify_tasks.specs.Blocks.{leaves_in}
use Rattle.verse_verify_tasks.proofs.blocks.does_leave.Given as goal

-- what is left gives the answer
abbrev pub invariant-defers : goal.invariant-defers
invariant-defers l =
    (suited l.here (leaves_in l.here l.count (sorts_of l.locals) l.rest) ≡
    suited l.here (leaves_in l.here l.count (spot_in l.here).locals (spot_in l.here).defers)) × (length l.rest +
    l._i ≡ length (spot_in l.here).defers)
