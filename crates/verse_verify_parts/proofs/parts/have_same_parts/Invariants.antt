use Rattle.std.proofs.Common.{◌≡◌, map, drop}
use Rattle.verse_verify_faults.specs.Faults.{same_marks}
use Rattle.verse_verify_notes.specs.View.{mark_of}
use Rattle.verse_verify_parts.proofs.parts.have_same_parts.Given as goal

-- what is left gives the answer
abbrev pub invariant-marks : goal.invariant-marks
invariant-marks l =
    same_marks (map mark_of (drop l.mark-index l.marks)) (map mark_of l.rest) ≡
    same_marks (map mark_of l.marks) (map mark_of l.others)
