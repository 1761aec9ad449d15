use Rattle.std.proofs.Common.{◌≡◌, drop}
use Rattle.std.specs.Prelude.{Some}
use Rattle.verse_verify_faults.specs.Stepping.{at_path}
use Rattle.verse_verify_notes.specs.View.{sort_of, sorts_of}
use Rattle.verse_verify_parts.specs.Heres.{classes_in}
use Rattle.verse_verify_operands.proofs.finding.part_at_path.Given as goal

-- what is left leads to the same part
abbrev pub invariant-indices : goal.invariant-indices
invariant-indices l =
    at_path (classes_in l.here) (Some (sort_of l.part)) (sorts_of (drop l.index-index l.indices)) ≡
    at_path (classes_in l.here) (Some (sort_of l.sort)) (sorts_of l.indices)
