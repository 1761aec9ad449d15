use Rattle.std.proofs.Common.{◌≡◌, drop}
use Rattle.verse_verify_notes.specs.View.{table_of}
use Rattle.verse_verify_faults.specs.Faults as f
use Rattle.verse_verify_pass.proofs.passing.first_fault.Given as goal

-- what is left gives the answer
abbrev pub invariant-ops : goal.invariant-ops
invariant-ops l =
    f.first_fault l.code (table_of l.table) l.index (drop l.index l.code.ops) ≡ f.first_fault l.code (table_of l.table) 0 l.code.ops
