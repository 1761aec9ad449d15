use Rattle.std.proofs.Common.{◌≡◌, ◌-◌, map}
use Rattle.verse_image.specs.Reading.{many_at}
use Rattle.verse_image.proofs.ReadingSteps.{with_front}
use Rattle.verse_verify_faults.specs.Reading.{mark_at, list_at}
use Rattle.verse_verify_notes.specs.View.{mark_of}
use Rattle.verse_verify_reader.proofs.lists.marks.Given as goal

abbrev pub invariant-marks : goal.invariant-marks
invariant-marks l =
    with_front (map mark_of l.marks.items) (many_at (mark_at l.code) (l.count - l._i) l.rest) ≡ list_at (mark_at l.code) l.bytes
