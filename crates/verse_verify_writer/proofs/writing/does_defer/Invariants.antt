use Rattle.std.proofs.Common.{◌≡◌, drop}
use Rattle.verse_verify_faults.specs.Reading.{defers_in}
use Rattle.verse_verify_writer.proofs.writing.does_defer.Given as goal

-- what is left gives the answer
abbrev pub invariant-ops : goal.invariant-ops
invariant-ops l = defers_in l.code (drop l.op-index l.code.ops) ≡ defers_in l.code l.code.ops
